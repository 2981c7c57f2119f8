-- A text put into bytes over zeros: at the start, and behind a word.
use Rattle.std.proofs.Common.{◌≡◌, ℕ, ◌+◌, ◌-◌, min, List, ◌++◌, length, take, drop, replicate, sym, ap, ◌∙◌, arith, length-take, length-append, length-drop}
use Rattle.std.proofs.lemmas.List.{take-append-drop, take_at, drop_at, drop-drop, drop-replicate}
use Rattle.std.proofs.Math.Seq.{take-append-add}
use Rattle.std.proofs.lemmas.Slice.{take-put_mid, drop-put_mid}
use borrow.Rule.Slice.PartMut.{put_mid}
use Rattle.words.proofs.Lists.{take_min}
use Rattle.words.specs.Padded.{Padded}

module _ (text written : List ℕ) (len : ℕ) (m : len ≡ min (length text) 32) (w : written ≡ take len text) where
  abbrev blank : List ℕ
  blank = replicate 32 0

  long : length written ≡ len
  long = ap length w ∙ length-take len text ∙ omega (arith, m)

  pub first_put : Padded (written ++ drop len blank) len
  first_put = record {
    fits = omega (arith, m);
    size = length-append written _ ∙ omega (arith, m, long, length-drop len blank);
    zeros = drop_at written _ len long ∙ drop-replicate len 32 0;
  }

  pub spelt_first : take len (written ++ drop len blank) ≡ take 32 text
  spelt_first = take_at written _ len long ∙ w ∙ ap (λ n. take n text) m ∙ take_min 32 text

module _ (bytes text written : List ℕ) (len more : ℕ) (p : Padded bytes len) (m : more ≡ min (length text) (32 - len)) (w : written ≡ take more text) where
  abbrev after : List ℕ
  after = put_mid len (len + more - len) bytes written

  size : length written ≡ more
  size = ap length w ∙ length-take more text ∙ omega (arith, m)

  front_after : take (len + more) after ≡ take len bytes ++ written
  front_after = take-put_mid len (len + more - len) bytes written (len + more) (omega (arith, size)) (omega (arith, p.fits, p.size))

  end_after : drop (len + more) after ≡ drop (len + more) bytes
  end_after = drop-put_mid len (len + more - len) bytes written (len + more) (omega arith) (omega (arith, p.fits, p.size)) (omega (arith, size))

  pub appended : Padded after (len + more)
  appended = record {
    fits = omega (arith, p.fits, m);
    size = sym (ap length (take-append-drop (len + more) after)) ∙ length-append (take (len + more) after) _ ∙ omega (arith, p.fits, p.size, m, size, ap length front_after, length-append (take len bytes) written, length-take len bytes, ap length end_after, length-drop (len + more) bytes);
    zeros = end_after ∙ sym (drop-drop more len bytes) ∙ ap (drop more) p.zeros ∙ drop-replicate more (32 - len) 0 ∙ ap (λ n. replicate n 0) (omega arith);
  }

  pub spelt_after : take (len + more) after ≡ take 32 (take len bytes ++ text)
  spelt_after =
      let full : length (take len bytes) + (32 - len) ≡ 32 = simp length-take (omega (arith, p.fits, p.size)) in
      front_after ∙ ap (λ l. take len bytes ++ l) (w ∙ ap (λ n. take n text) m ∙ take_min (32 - len) text)
      ∙ sym (take-append-add (take len bytes) text (32 - len)) ∙ ap (λ n. take n (take len bytes ++ text)) full
