-- The counter of nodes or of levels taken: numbers from there on are nobody's (owner 1), and only those.
-- Relies on Update.
use mathlib.Core.Path.{◌≡◌, sym, ap, ◌∙◌}
use mathlib.Core.Logic.{◌≢◌}
use Prim.Native.Nat.{ℕ, suc, ◌≤◌, ◌<◌}
use native.Mathlib.Decide.{ℕ_discrete, dec_lt}
use native.Mathlib.Omega.{arith}
use Rattle.trie.proofs.Update.{upd, upd_same, upd_other}

pub record Fresh (owner : ℕ → ℕ) (taken : ℕ) : Type 0 where
  pub beyond : (n : ℕ) → taken ≤ n → owner n ≡ 1
  pub within : (n : ℕ) → owner n ≡ 1 → taken ≤ n

-- what has an owner is taken
pub owned_taken : {owner : ℕ → ℕ} {taken : ℕ} → Fresh owner taken → (n : ℕ) → owner n ≢ 1 → n < taken
owned_taken {owner} {taken} f n h = by (dec_lt n taken)
  where
    by : Dec (n < taken) → n < taken
    by (yes l) = l
    by (no l) = absurd (h (f.beyond n (omega arith)))

-- the next number is taken
pub fresh_next : {owner : ℕ → ℕ} {taken : ℕ} → Fresh owner taken → (v : ℕ) → v ≢ 1 → Fresh (upd owner taken v) (suc taken)
fresh_next {owner} {taken} f v z =
    record {
      beyond = λ n l. upd_other owner taken v n (λ e. omega arith) ∙ f.beyond n (omega arith);
      within = λ n e. by n e (ℕ_discrete n taken);
    }
  where
    by : (n : ℕ) → upd owner taken v n ≡ 1 → Dec (n ≡ taken) → taken < n
    by n e (yes q) = absurd (z (sym (ap (upd owner taken v) q ∙ upd_same owner taken v) ∙ e))
    by n e (no q) = let k = f.within n (sym (upd_other owner taken v n q) ∙ e) in omega arith

-- one that was taken changes its owner
pub fresh_keep : {owner : ℕ → ℕ} {taken : ℕ} → Fresh owner taken → (m v : ℕ) → owner m ≢ 1 → v ≢ 1 → Fresh (upd owner m v) taken
fresh_keep {owner} {taken} f m v h z =
    record {
      beyond = λ n l. upd_other owner m v n (λ e. h (ap owner (sym e) ∙ f.beyond n l)) ∙ f.beyond n l;
      within = λ n e. by n e (ℕ_discrete n m);
    }
  where
    by : (n : ℕ) → upd owner m v n ≡ 1 → Dec (n ≡ m) → taken ≤ n
    by n e (yes q) = absurd (z (sym (ap (upd owner m v) q ∙ upd_same owner m v) ∙ e))
    by n e (no q) = f.within n (sym (upd_other owner m v n q) ∙ e)
