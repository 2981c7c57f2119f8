-- A text put over other bytes.
use Rattle.std.proofs.Common.{◌≡◌, ℕ, ◌+◌, ◌-◌, ◌≤◌, List, [], ◌++◌, length, take, drop, sym, ap, ◌∙◌, append_assoc, add-zero, arith, length-append, length-drop, take-append-drop, length-take, take-take, take_at}
use Rattle.std.proofs.Math.Seq.{take-append-le, take-append-add}
use Rattle.std.proofs.lemmas.List.{drop-take}
use Rattle.std.proofs.lemmas.Slice.{drop-append-drop}
use Rattle.page.specs.Filled.{overlaid}

pub length_overlaid : (bytes : List ℕ) (m : ℕ) (text : List ℕ) → m + length text ≤ length bytes → length (overlaid bytes m text) ≡ length bytes
length_overlaid bytes m text h = simp (length-append, length-take, length-drop) (omega arith)

pub overlaid_none : (bytes : List ℕ) (m : ℕ) → overlaid bytes m [] ≡ bytes
overlaid_none bytes m = rw add-zero (take-append-drop m bytes)

-- the bytes up to the text's end are as many as they were
front : (bytes : List ℕ) (m : ℕ) (text : List ℕ) → m ≤ length bytes → length (take m bytes ++ text) ≡ m + length text
front bytes m text h = simp (length-append, length-take) (omega arith)

grouped : (bytes : List ℕ) (m : ℕ) (text : List ℕ) → overlaid bytes m text ≡ (take m bytes ++ text) ++ drop (m + length text) bytes
grouped bytes m text = sym (append_assoc (take m bytes) text (drop (m + length text) bytes))

pub take_below : (bytes : List ℕ) (m : ℕ) (text : List ℕ) (n : ℕ) → n ≤ m → m ≤ length bytes → take n (overlaid bytes m text) ≡ take n bytes
take_below bytes m text n k h =
    take-append-le n (take m bytes) (text ++ drop (m + length text) bytes) (simp length-take (omega arith)) ∙ take-take n m bytes k

pub take_written : (bytes : List ℕ) (m : ℕ) (text : List ℕ) → m ≤ length bytes → take (m + length text) (overlaid bytes m text) ≡ take m bytes ++ text
take_written bytes m text h =
    ap (take (m + length text)) (grouped bytes m text)
    ∙ take_at (take m bytes ++ text) (drop (m + length text) bytes) (m + length text) (front bytes m text h)

-- the bytes past the text's end are as they were
pub drop_overlaid : (bytes : List ℕ) (m : ℕ) (text : List ℕ) (n : ℕ) → m + length text ≤ n → m ≤ length bytes → drop n (overlaid bytes m text) ≡ drop n bytes
drop_overlaid bytes m text n k h =
    ap (drop n) (grouped bytes m text)
    ∙ drop-append-drop (m + length text) bytes (take m bytes ++ text) n k (front bytes m text h)

-- one text after the other
pub overlaid_more : (bytes : List ℕ) (m : ℕ) (s t : List ℕ) → m ≤ length bytes → overlaid (overlaid bytes m s) (m + length s) t ≡ overlaid bytes m (s ++ t)
overlaid_more bytes m s t h =
    let far : m + length s + length t ≡ m + length (s ++ t) = simp length-append (omega arith) in
    (λ j. take_written bytes m s h j ++ (t ++ drop_overlaid bytes m s (m + length s + length t) (omega arith) h j))
    ∙ append_assoc (take m bytes) s (t ++ drop (m + length s + length t) bytes)
    ∙ (λ j. take m bytes ++ sym (append_assoc s t (drop (far j) bytes)) j)

-- a text put in the first n bytes
pub take_overlaid : (bytes : List ℕ) (m : ℕ) (text : List ℕ) (n : ℕ) → m + length text ≤ n → m ≤ length bytes → take n (overlaid bytes m text) ≡ overlaid (take n bytes) m text
take_overlaid bytes m text n k h =
    let e = m + length text in
    let more : n ≡ e + (n - e) = omega arith in
    let here : take n (overlaid bytes m text) ≡ (take m bytes ++ text) ++ take (n - e) (drop e bytes) =
    (λ j. take (more j) (grouped bytes m text j))
    ∙ ap (λ i. take (i + (n - e)) ((take m bytes ++ text) ++ drop e bytes)) (sym (front bytes m text h))
    ∙ take-append-add (take m bytes ++ text) (drop e bytes) (n - e) in
    let there : drop e (take n bytes) ≡ take (n - e) (drop e bytes) = ap (λ i. drop e (take i bytes)) more ∙ drop-take e (n - e) bytes in
    here
    ∙ append_assoc (take m bytes) text (take (n - e) (drop e bytes))
    ∙ (λ j. sym (take-take m n bytes (omega arith)) j ++ (text ++ sym there j))
