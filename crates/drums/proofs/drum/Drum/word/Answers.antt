use Rattle.drums.specs.DrumWordsLemmas.{with_bar_written, number_word}
use Rattle.drums.proofs.drum.Drum.word.Goals as goal

pub returns : goal.returns
returns c =
    let range = c.self.invariant in
    let written = with_bar_written _ _ range.low range.small in
    let is = number_word _ _ range in
    cc
