-- The laws of leads that a search does not find.
use Rattle.std.specs.Prelude.{◌≡◌, ℕ, ◌<◌, true}
use Rattle.std.proofs.Common.{lit<, rules}
use Rattle.kind.specs.Tally.{members, Tallied}
use Rattle.leads.specs.Leads.{turn_act, turn_word, ends_has, ends_inside, ends_count, ends_label}
use Rattle.leads.specs.declared.Turn.{Turn}
use Rattle.leads.specs.declared.Ends.{Ends}

pub ends_all_inside : (s t : Ends) → ((v : ℕ) → v < 2 → ends_has s v ≡ true → ends_has t v ≡ true) → ends_inside s t ≡ true
ends_all_inside s t h = let a = h 0 (lit< tt) in let b = h 1 (lit< tt) in search rules

pub turn_word_told : (g h : Turn) → ((v : ℕ) → v < 2 → turn_act g v ≡ turn_act h v) → turn_word g ≡ turn_word h
turn_word_told g h e = let a = e 0 (lit< tt) in search rules

pub ends_label_told : (s t : Ends) → ((v : ℕ) → v < 2 → ends_has s v ≡ ends_has t v) → ends_label s ≡ ends_label t
ends_label_told s t e =
    let p : s.plus ≡ t.plus = e 0 (lit< tt) in
    let q : s.minus ≡ t.minus = e 1 (lit< tt) in
    search rules

pub ends_count_tells : (s : Ends) → Tallied (members (ends_has s) 2) (ends_count s)
unfolding members
ends_count_tells s = search rules
