-- Pages that are zero past their mark.
use Rattle.std.proofs.Common.{◌≡◌, ℕ, ◌+◌, ◌-◌, ◌≤◌, List, ◌++◌, length, take, drop, replicate, sym, refl, ap, ◌∙◌, append_assoc, arith, length-take, drop-drop, drop_at}
use Rattle.std.proofs.lemmas.List.{drop-append-le, drop-replicate, length-replicate}
use Rattle.page.specs.Filled.{overlaid}
use Rattle.page.specs.Wiped.{limit, wiped, BlankFrom}
use Rattle.page.proofs.Overlays.{take_written, drop_overlaid}
use Rattle.page.proofs.Wipes.{limit_wiped, limit_overlaid, wiped_some, wiped_again}

pub blank_wiped : (bytes : List ℕ) (a : ℕ) → a ≤ limit bytes → BlankFrom (wiped bytes a) a
blank_wiped bytes a h = record {
  within = rw limit_wiped h;
  zeros = wiped_again bytes a h;
}

-- a blank page has zeros from its mark to the limit
pub blank_zeros : (bytes : List ℕ) (mark : ℕ) → BlankFrom bytes mark → drop mark bytes ≡ replicate (limit bytes - mark) 0 ++ drop (limit bytes) bytes
blank_zeros bytes mark b =
    ap (drop mark) (sym b.zeros ∙ sym (wiped_some bytes mark (limit bytes) refl b.within))
    ∙ drop_at (take mark bytes) (replicate (limit bytes - mark) 0 ++ drop (limit bytes) bytes) mark (simp length-take (omega (arith, b.within)))

fewer : (l m n z : ℕ) → drop n (replicate (l - m) z) ≡ replicate (l - (m + n)) z
fewer l m n z = drop-replicate n (l - m) z ∙ ap (λ k. replicate k z) (omega arith)

pub blank_rest : (bytes : List ℕ) (mark n : ℕ) → BlankFrom bytes mark → mark + n ≤ limit bytes → drop (mark + n) bytes ≡ replicate (limit bytes - (mark + n)) 0 ++ drop (limit bytes) bytes
blank_rest bytes mark n b h =
    sym (drop-drop n mark bytes)
    ∙ ap (drop n) (blank_zeros bytes mark b)
    ∙ drop-append-le n (replicate (limit bytes - mark) 0) (drop (limit bytes) bytes) (simp length-replicate (omega arith))
    ∙ ap (λ z. z ++ drop (limit bytes) bytes) (fewer (limit bytes) mark n 0)

-- it stays blank when a text is put at its mark
pub blank_overlaid : (bytes : List ℕ) (mark : ℕ) (text : List ℕ) → BlankFrom bytes mark → mark + length text ≤ limit bytes → BlankFrom (overlaid bytes mark text) (mark + length text)
blank_overlaid bytes mark text b h = record {
  within = rw (limit_overlaid bytes mark text h) h;
  zeros =
      sym (wiped_some (overlaid bytes mark text) (mark + length text) (limit bytes) (sym (limit_overlaid bytes mark text h)) h)
      ∙ (λ j. take_written bytes mark text (omega arith) j ++ (replicate (limit bytes - (mark + length text)) 0 ++ drop_overlaid bytes mark text (limit bytes) h (omega arith) j))
      ∙ append_assoc (take mark bytes) text (replicate (limit bytes - (mark + length text)) 0 ++ drop (limit bytes) bytes)
      ∙ (λ j. take mark bytes ++ (text ++ sym (blank_rest bytes mark (length text) b h) j));
}
