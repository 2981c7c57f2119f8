-- Writes of a listing under way, one after the other.
use Rattle.std.proofs.Common.{◌≡◌, ℕ, ◌≤◌, List, [], ◌++◌, Ok, Err, Result, sym, refl, ap, ◌∙◌, add-zero, arith, length-append}
use Rattle.page.specs.Filled.{overlaid}
use Rattle.page.specs.Wiped.{limit, wiped}
use Rattle.page.specs.Writing.{SameListing, Adds, Refuses, Writes}
use Rattle.page.specs.declared.full.PageFull.{PageFull}
use Rattle.page.specs.declared.guard.Guard.{Guard}
use Rattle.page.proofs.Overlays.{overlaid_none, overlaid_more}
use Rattle.page.proofs.Wipes.{limit_overlaid, wiped_overlaid}

same_more : {a b c : Guard} → SameListing a b → SameListing b c → SameListing a c
same_more p q = record { from = q.from ∙ p.from; lent = q.lent ∙ p.lent; lent_mark = q.lent_mark ∙ p.lent_mark }

pub adds_none : (a : Guard) → a.mark.now ≤ limit a.bytes.now → Adds a a []
adds_none a h = record {
  holds = sym (overlaid_none a.bytes.now a.mark.now);
  ends = sym (add-zero a.mark.now);
  fits = rw add-zero h;
  same = record { from = refl; lent = refl; lent_mark = refl };
}

pub adds_limit : {a b : Guard} {text : List ℕ} → Adds a b text → limit b.bytes.now ≡ limit a.bytes.now
adds_limit {a = a} {b = b} {text = text} p = ap limit p.holds ∙ limit_overlaid a.bytes.now a.mark.now text p.fits

-- wiping from a place before the mark undoes the write
pub adds_back : {a b : Guard} {text : List ℕ} → Adds a b text → (m : ℕ) → m ≤ a.mark.now → wiped b.bytes.now m ≡ wiped a.bytes.now m
adds_back {a = a} {b = b} {text = text} p m h = ap (λ l. wiped l m) p.holds ∙ wiped_overlaid a.bytes.now a.mark.now text m h p.fits

pub adds_more : {a b c : Guard} {s t : List ℕ} → Adds a b s → Adds b c t → Adds a c (s ++ t)
adds_more {a = a} {b = b} {c = c} {s = s} {t = t} p q =
    let e : limit b.bytes.now ≡ limit a.bytes.now = adds_limit p in
    record {
      holds =
          q.holds
          ∙ (λ j. overlaid (p.holds j) (p.ends j) t)
          ∙ overlaid_more a.bytes.now a.mark.now s t (omega (arith, p.fits));
      ends = simp length-append (omega (arith, p.ends, q.ends));
      fits = simp length-append (omega (arith, p.ends, q.fits));
      same = same_more p.same q.same;
    }

-- a text of which a later part is refused is refused
pub refuses_more : {a b c : Guard} {s t : List ℕ} → Adds a b s → Refuses b c t → Refuses a c (s ++ t)
refuses_more {a = a} {b = b} {c = c} {s = s} {t = t} p q =
    let e : limit b.bytes.now ≡ limit a.bytes.now = adds_limit p in
    record {
      over = simp length-append (omega (arith, p.ends, q.over));
      back = λ m h. q.back m (omega (arith, p.ends)) ∙ adds_back p m h;
      same = same_more p.same q.same;
    }

-- and so is a longer one
pub refuses_longer : {a b : Guard} {s : List ℕ} (t : List ℕ) → Refuses a b s → Refuses a b (s ++ t)
refuses_longer {s = s} t p = record {
  over = simp length-append (omega (arith, p.over));
  back = p.back;
  same = p.same;
}

pub writes_more : (a b c : Guard) (s t : List ℕ) (r : Result (Unit {0}) PageFull) → Adds a b s → Writes b c t r → Writes a c (s ++ t) r
writes_more a b c s t (Ok x) p q = adds_more p q
writes_more a b c s t (Err e) p q = refuses_more p q
