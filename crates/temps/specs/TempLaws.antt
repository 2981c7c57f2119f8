-- The laws of temperatures that a search does not find.
use Rattle.std.specs.Prelude.{◌≡◌, ℕ, ◌%◌, ◌<◌, ◌≤◌, true, List, length, is_some, Some}
use Rattle.std.proofs.Common.{ap, ◌∙◌, arith, mod-lt, mod-eq_of_lt, lit<}
use Rattle.words.specs.Plain.{all_plain}
use Rattle.temps.specs.Temps.{temp_act, temp_spelt, temp_word, temp_named}
use Rattle.temps.specs.TempWords.{temp_spelling}

low : (d : ℕ) → d % 4294967296 < 4294967296
low d = mod-lt d (lit< tt)

pub temp_word_length : (d : ℕ) → (0 < length (temp_word d)) × (length (temp_word d) ≤ 11)
temp_word_length d = (temp_spelling.some _ (low d), temp_spelling.short _ (low d))

pub temp_word_plain : (d : ℕ) → all_plain (temp_word d) ≡ true
temp_word_plain d = temp_spelling.plain _ (low d)

pub temp_word_tells : (g h : ℕ) → temp_word g ≡ temp_word h → (v : ℕ) → temp_act g v ≡ temp_act h v
temp_word_tells g h e v =
    let p = temp_spelling.written _ (low g) in
    let q = temp_spelling.written _ (low h) in
    let same : g % 4294967296 ≡ h % 4294967296 = cc in
    omega arith

pub temp_word_told : (g h : ℕ) → ((v : ℕ) → v < 4294967296 → temp_act g v ≡ temp_act h v) → temp_word g ≡ temp_word h
temp_word_told g h e = let z = e 0 (lit< tt) in let same : g % 4294967296 ≡ h % 4294967296 = omega arith in ap temp_spelt same

pub temp_named_word : (field : List ℕ) (d : ℕ) → temp_named field ≡ Some d → temp_word d ≡ field
temp_named_word field d e = let r = temp_spelling.read field d e in ap temp_spelt (mod-eq_of_lt r.0) ∙ r.1

pub temp_word_named : (d : ℕ) → is_some (temp_named (temp_word d)) ≡ true
temp_word_named d = ap is_some (temp_spelling.written _ (low d))
