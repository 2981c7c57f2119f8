-- Bytes with zeros past a mark.
use Rattle.std.proofs.Common.{◌≡◌, ℕ, ◌+◌, ◌-◌, ◌≤◌, min, max, List, ◌++◌, length, take, drop, replicate, sym, refl, ap, ◌∙◌, ⊎_elim, append_assoc, arith, length-append, length-drop, take-append-drop, length-take, take_at}
use Rattle.std.proofs.Math.ListN.{length-replicate}
use Rattle.std.proofs.lemmas.Slice.{drop-append-drop}
use Rattle.std.proofs.lemmas.Bool.{cases_lt}
use Rattle.page.specs.Filled.{overlaid}
use Rattle.page.specs.Wiped.{limit, wiped}
use Rattle.page.proofs.Overlays.{length_overlaid, take_below, take_overlaid, drop_overlaid}

pub length_wiped : (bytes : List ℕ) (a : ℕ) → length (wiped bytes a) ≡ length bytes
unfolding wiped
length_wiped bytes a = simp (length-append, length-take, length-replicate, length-drop) (omega arith)

pub limit_wiped : (bytes : List ℕ) (a : ℕ) → limit (wiped bytes a) ≡ limit bytes
limit_wiped bytes a = ap (λ n. min n 65536) (length_wiped bytes a)

pub limit_overlaid : (bytes : List ℕ) (m : ℕ) (text : List ℕ) → m + length text ≤ limit bytes → limit (overlaid bytes m text) ≡ limit bytes
limit_overlaid bytes m text h = ap (λ n. min n 65536) (length_overlaid bytes m text (omega arith))

-- the bytes in use, and those past them
pub used_overlaid : (bytes : List ℕ) (m : ℕ) (text : List ℕ) → m + length text ≤ limit bytes → take 65536 (overlaid bytes m text) ≡ overlaid (take 65536 bytes) m text
used_overlaid bytes m text h = take_overlaid bytes m text 65536 (omega arith) (omega arith)

pub past_overlaid : (bytes : List ℕ) (m : ℕ) (text : List ℕ) → m + length text ≤ limit bytes → drop 65536 (overlaid bytes m text) ≡ drop 65536 bytes
past_overlaid bytes m text h = drop_overlaid bytes m text 65536 (omega arith) (omega arith)

pub wiped_none : (bytes : List ℕ) (a : ℕ) → limit bytes ≤ a → wiped bytes a ≡ bytes
unfolding wiped
wiped_none bytes a h =
    let none : limit bytes - a ≡ 0 = omega arith in
    let far : max a (limit bytes) ≡ a = omega arith in
    (λ j. take a bytes ++ (replicate (none j) 0 ++ drop (far j) bytes)) ∙ take-append-drop a bytes

-- zeros from a to e, where e is the limit
pub wiped_some : (bytes : List ℕ) (a e : ℕ) → e ≡ limit bytes → a ≤ e → take a bytes ++ (replicate (e - a) 0 ++ drop e bytes) ≡ wiped bytes a
unfolding wiped
wiped_some bytes a e w h =
    let far : e ≡ max a (limit bytes) = omega arith in
    λ j. take a bytes ++ (replicate (w j - a) 0 ++ drop (far j) bytes)

-- and from the limit on, if a is past it
pub wiped_at : (bytes : List ℕ) (a m e : ℕ) → e ≡ limit bytes → m ≡ min a e → take m bytes ++ (replicate (e - m) 0 ++ drop e bytes) ≡ wiped bytes a
wiped_at bytes a m e w is =
    ⊎_elim
    (λ h. let same : m ≡ a = omega arith in ap (λ n. take n bytes ++ (replicate (e - n) 0 ++ drop e bytes)) same ∙ wiped_some bytes a e w (omega arith))
    (λ h. wiped_some bytes m e w (omega arith) ∙ wiped_none bytes m (omega arith) ∙ sym (wiped_none bytes a (omega arith)))
    (cases_lt a e)

-- the bytes as they are before a, zeros, and the bytes as they are past the limit
parted : (bytes : List ℕ) (a : ℕ) → a ≤ limit bytes → wiped bytes a ≡ (take a bytes ++ replicate (limit bytes - a) 0) ++ drop (limit bytes) bytes
parted bytes a h =
    sym (wiped_some bytes a (limit bytes) refl h)
    ∙ sym (append_assoc (take a bytes) (replicate (limit bytes - a) 0) (drop (limit bytes) bytes))

used : (bytes : List ℕ) (a : ℕ) → a ≤ limit bytes → length (take a bytes ++ replicate (limit bytes - a) 0) ≡ limit bytes
used bytes a h = simp (length-append, length-take, length-replicate) (omega arith)

-- the bytes past the limit are as they were
pub drop_wiped : (bytes : List ℕ) (a n : ℕ) → limit bytes ≤ n → drop n (wiped bytes a) ≡ drop n bytes
drop_wiped bytes a n k =
    ⊎_elim
    (λ h. ap (drop n) (parted bytes a (omega arith)) ∙ drop-append-drop (limit bytes) bytes (take a bytes ++ replicate (limit bytes - a) 0) n k (used bytes a (omega arith)))
    (λ h. ap (drop n) (wiped_none bytes a h))
    (cases_lt a (limit bytes))

pub past_wiped : (bytes : List ℕ) (a : ℕ) → drop 65536 (wiped bytes a) ≡ drop 65536 bytes
past_wiped bytes a = drop_wiped bytes a 65536 (omega arith)

pub take_wiped : (bytes : List ℕ) (a : ℕ) → a ≤ limit bytes → take a (wiped bytes a) ≡ take a bytes
take_wiped bytes a h =
    ap (take a) (sym (wiped_some bytes a (limit bytes) refl h))
    ∙ take_at (take a bytes) (replicate (limit bytes - a) 0 ++ drop (limit bytes) bytes) a (simp length-take (omega arith))

-- wiping undoes what was written past the place
pub wiped_overlaid : (bytes : List ℕ) (m : ℕ) (text : List ℕ) (a : ℕ) → a ≤ m → m + length text ≤ limit bytes → wiped (overlaid bytes m text) a ≡ wiped bytes a
unfolding wiped
wiped_overlaid bytes m text a k h =
    let e : limit (overlaid bytes m text) ≡ limit bytes = limit_overlaid bytes m text h in
    (λ j. take_below bytes m text a k (omega arith) j ++ (replicate (e j - a) 0 ++ drop (max a (e j)) (overlaid bytes m text)))
    ∙ ap (λ r. take a bytes ++ (replicate (limit bytes - a) 0 ++ r)) (drop_overlaid bytes m text (max a (limit bytes)) (omega arith) (omega arith))

pub wiped_again : (bytes : List ℕ) (a : ℕ) → a ≤ limit bytes → wiped (wiped bytes a) a ≡ wiped bytes a
wiped_again bytes a h =
    let e : limit bytes ≡ limit (wiped bytes a) = sym (limit_wiped bytes a) in
    sym (wiped_some (wiped bytes a) a (limit bytes) e h)
    ∙ (λ j. take_wiped bytes a h j ++ (replicate (limit bytes - a) 0 ++ drop_wiped bytes a (limit bytes) (omega arith) j))
    ∙ wiped_some bytes a (limit bytes) refl h
