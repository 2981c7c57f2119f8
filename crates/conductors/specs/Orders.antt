-- The orders of n conductors. Every number k stands for one of them: 0 goes to k % n, and k / n is the order of the
-- others among the n - 1 places that are left.
use Rattle.std.specs.Prelude.{ℕ, zero, suc, ◌+◌, ◌-◌, ◌*◌, ◌/◌, ◌%◌, cond, ◌==◌, nat_lt}

-- the numbers other than d, from 0 on: the one at place w
abbrev pub past : ℕ → ℕ → ℕ
past d w = cond (nat_lt w d) w (w + 1)

-- the place of w among them
abbrev pub back : ℕ → ℕ → ℕ
back d w = cond (nat_lt d w) (w - 1) w

-- where order k of n conductors takes v
unfoldable pub takes : ℕ → ℕ → ℕ → ℕ
takes zero k v = v
takes (suc m) k zero = k % suc m
takes (suc m) k (suc v) = past (k % suc m) (takes m (k / suc m) v)

-- what order k of n conductors takes to w
unfoldable pub brings : ℕ → ℕ → ℕ → ℕ
brings zero k w = w
brings (suc m) k w = cond (w == k % suc m) 0 (suc (brings m (k / suc m) (back (k % suc m) w)))

-- the number of the order of n conductors that takes each v to f v
unfoldable pub numbered : ℕ → (ℕ → ℕ) → ℕ
numbered zero f = 0
numbered (suc m) f = f 0 % suc m + suc m * numbered m (λ v. back (f 0) (f (suc v)))

-- g after h
abbrev pub order_comp : ℕ → ℕ → ℕ → ℕ
order_comp n g h = numbered n (λ v. takes n g (takes n h v))

abbrev pub order_inv : ℕ → ℕ → ℕ
order_inv n g = numbered n (brings n g)
