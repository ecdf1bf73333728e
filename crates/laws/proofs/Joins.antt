-- Lists put one after another: how long they are together, and where each stands.
use mathlib.Core.Path.{◌≡◌, refl, sym}
use mathlib.Core.List.{List, [], ◌++◌, append_assoc, append-nil}
use mathlib.Core.Logic.{by_cases}
use Prim.Native.Nat.{ℕ, zero, suc, ◌+◌, ◌*◌, ◌≤◌, ◌<◌}
use native.Mathlib.Numerals.{add-one}
use native.Mathlib.Decide.{ℕ_discrete}
use native.Mathlib.Omega.{arith}
use lib.ListN.{length, take, drop, length-append}
use lib.Seq.{take_at, drop_at}
use Rattle.laws.specs.Joined.{joined, total}

-- One more.
pub joined_more : (part : ℕ → List ℕ) (n : ℕ) → joined part (n + 1) ≡ joined part n ++ part n
unfolding joined
joined_more part n = rw (add-one n)

pub total_more : (f : ℕ → ℕ) (n : ℕ) → total f (n + 1) ≡ total f n + f n
unfolding total
total_more f n = rw (add-one n)

-- Together they are as long as each added up.
pub joined_length : (part : ℕ → List ℕ) (n : ℕ) → length (joined part n) ≡ total (λ i. length (part i)) n
unfolding joined total
joined_length part zero = refl
joined_length part (suc n) = rw (length-append, joined_length part n)

-- What is each c times as long is so together.
pub total_times : (f g : ℕ → ℕ) (c n : ℕ) → ((i : ℕ) → i < n → f i ≡ c * g i) → total f n ≡ c * total g n
unfolding total
total_times f g c zero e = omega arith
total_times f g c (suc n) e = rw (total_times f g c n (λ i p. e i (omega arith)), e n (omega arith)) (omega arith)

pub total_same : (f : ℕ → ℕ) (c n : ℕ) → ((i : ℕ) → i < n → f i ≡ c) → total f n ≡ c * n
unfolding total
total_same f c zero e = omega arith
total_same f c (suc n) e = rw (total_same f c n (λ i p. e i (omega arith)), e n (omega arith)) (omega arith)

-- No more than c each.
pub total_most : (f : ℕ → ℕ) (c n : ℕ) → ((i : ℕ) → i < n → f i ≤ c) → total f n ≤ c * n
unfolding total
total_most f c zero e = omega arith
total_most f c (suc n) e = omega (arith, total_most f c n (λ i p. e i (omega arith)), e n (omega arith))

-- The longer the row, the more.
pub total_grows : (f : ℕ → ℕ) (m n : ℕ) → m ≤ n → total f m ≤ total f n
unfolding total
total_grows f m zero p = let q : m ≡ 0 = omega arith in rw q (omega arith)
total_grows f m (suc n) p =
    by_cases (ℕ_discrete m (suc n))
    (λ q. rw q (omega arith))
    (λ q. omega (arith, total_grows f m n (omega arith)))

-- The first m, and the n behind them.
pub total_split : (f : ℕ → ℕ) (m n : ℕ) → total f (m + n) ≡ total f m + total (λ i. f (m + i)) n
unfolding total
total_split f m zero = let e : m + 0 ≡ m = omega arith in rw e (omega arith)
total_split f m (suc n) = let e : m + suc n ≡ suc (m + n) = omega arith in rw (e, total_split f m n) (omega arith)

pub joined_split : (part : ℕ → List ℕ) (m n : ℕ) → joined part (m + n) ≡ joined part m ++ joined (λ i. part (m + i)) n
unfolding joined
joined_split part m zero = let e : m + 0 ≡ m = omega arith in rw e (sym (append-nil (joined part m)))
joined_split part m (suc n) = let e : m + suc n ≡ suc (m + n) = omega arith in rw (e, joined_split part m n) (append_assoc (joined part m) (joined (λ i. part (m + i)) n) (part (m + n)))

-- A row of lists, cut into rows of so many each.
pub joined_rows : (part : ℕ → List ℕ) (f : ℕ → ℕ) (n : ℕ) → joined part (total f n) ≡ joined (λ i. joined (λ k. part (total f i + k)) (f i)) n
unfolding joined total
joined_rows part f zero = refl
joined_rows part f (suc n) = rw (joined_split part (total f n) (f n), joined_rows part f n)

-- Rows that agree are one.
pub joined_alike : (f g : ℕ → List ℕ) (n : ℕ) → ((i : ℕ) → i < n → f i ≡ g i) → joined f n ≡ joined g n
unfolding joined
joined_alike f g zero e = refl
joined_alike f g (suc n) e = rw (joined_alike f g n (λ i p. e i (omega arith)), e n (omega arith))

pub total_alike : (f g : ℕ → ℕ) (n : ℕ) → ((i : ℕ) → i < n → f i ≡ g i) → total f n ≡ total g n
unfolding total
total_alike f g zero e = refl
total_alike f g (suc n) e = rw (total_alike f g n (λ i p. e i (omega arith)), e n (omega arith))

-- The list has a part from a place on.
pub record Holds (list : List ℕ) (at : ℕ) (part : List ℕ) : Type 0 where
  pub before : List ℕ
  pub after : List ℕ
  pub place : length before ≡ at
  pub whole : list ≡ before ++ part ++ after

-- The part is what stands there.
pub held_part : (list part : List ℕ) (at n : ℕ) → Holds list at part → length part ≡ n → take n (drop at list) ≡ part
held_part list part at n h e =
    rw (h.whole, append_assoc h.before part h.after, drop_at h.before (part ++ h.after) at h.place, take_at part h.after n e)

-- A part of a part.
pub holds_in : (list part inner : List ℕ) (i j k : ℕ) → Holds list i part → Holds part j inner → i + j ≡ k → Holds list k inner
holds_in list part inner i j k h g e =
    record {
      before = h.before ++ g.before;
      after = g.after ++ h.after;
      place = rw (length-append, h.place, g.place) e;
      whole = rw (h.whole, g.whole) (simp append_assoc);
    }

pub holds_first : (a b : List ℕ) → Holds (a ++ b) 0 a
holds_first a b = record { before = []; after = b; place = refl; whole = refl }

pub holds_second : (a b : List ℕ) (n : ℕ) → length a ≡ n → Holds (a ++ b) n b
holds_second a b n e = record { before = a; after = []; place = e; whole = sym (append-nil (a ++ b)) }

-- Each of the lists stands behind those before it.
pub holds_each : (part : ℕ → List ℕ) (n i : ℕ) → i < n → Holds (joined part n) (length (joined part i)) (part i)
unfolding joined
holds_each part zero i p = absurd (omega arith)
holds_each part (suc n) i p =
    by_cases (ℕ_discrete i n)
    (λ q. rw q (holds_second (joined part n) (part n) _ refl))
    (λ q. holds_in _ (joined part n) _ 0 _ _ (holds_first (joined part n) (part n)) (holds_each part n i (omega arith)) (omega arith))
