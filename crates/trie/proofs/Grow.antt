-- A family of chains one of which gets a node more at its end, or loses its last.
-- Relies on Update and Lists.
use mathlib.Core.Path.{◌≡◌, refl, ◌∙◌}
use mathlib.Core.Logic.{◌≢◌, ◌⊎◌, inl, inr}
use mathlib.Core.List.Memᴰ
use mathlib.Core.List.{List, [], ◌∷◌, ◌++◌}
use Prim.Native.Nat.{ℕ}
use Rattle.trie.proofs.Update.{upd₂, upd₂_at, upd₂_same, upd₂_other, same_entry?}
use Rattle.trie.proofs.Lists.{◌∈◌, NoDup, ∈-last, nodup_snoc, nodup_init}

-- n at the end of the chain of (H, e)
pub grown : (ℕ → ℕ → List ℕ) → ℕ → ℕ → ℕ → ℕ → ℕ → List ℕ
grown f H e n = upd₂ f H e (f H e ++ (n ∷ []))

module _ (f : ℕ → ℕ → List ℕ) (H e n : ℕ) where
  pub grown_at : grown f H e n H e ≡ f H e ++ (n ∷ [])
  unfolding grown
  grown_at = upd₂_same f H e (f H e ++ (n ∷ []))

  pub grown_other : (g d : ℕ) → ¬ ((g ≡ H) × (d ≡ e)) → grown f H e n g d ≡ f g d
  unfolding grown
  grown_other g d q = upd₂_other f H e (f H e ++ (n ∷ [])) g d q

  grown_is : (g d : ℕ) → (g ≡ H) × (d ≡ e) → grown f H e n g d ≡ f g d ++ (n ∷ [])
  unfolding grown
  grown_is g d q = upd₂_at f H e (f H e ++ (n ∷ [])) g d q ∙ rw (q.0, q.1) refl

  pub grown_came : {m g d : ℕ} → m ∈ grown f H e n g d → (m ∈ f g d) ⊎ ((m ≡ n) × (g ≡ H) × (d ≡ e))
  grown_came {m} {g} {d} i = by (same_entry? g d H e)
    where
      by : Dec ((g ≡ H) × (d ≡ e)) → (m ∈ f g d) ⊎ ((m ≡ n) × (g ≡ H) × (d ≡ e))
      by (yes q) = last (Memᴰ.append_cases (f g d) (rw (grown_is g d q) at i))
        where
          last : (m ∈ f g d) ⊎ (m ∈ (n ∷ [])) → (m ∈ f g d) ⊎ ((m ≡ n) × (g ≡ H) × (d ≡ e))
          last (inl j) = inl j
          last (inr j) = inr (Memᴰ.eq_of_singleton j, q.0, q.1)
      by (no q) = inl (rw (grown_other g d q) at i)

  pub grown_stays : {m g d : ℕ} → m ∈ f g d → m ∈ grown f H e n g d
  grown_stays {m} {g} {d} i = by (same_entry? g d H e)
    where
      by : Dec ((g ≡ H) × (d ≡ e)) → m ∈ grown f H e n g d
      by (yes q) = rw (grown_is g d q) (Memᴰ.append_left (n ∷ []) i)
      by (no q) = rw (grown_other g d q) i

  pub grown_new : n ∈ grown f H e n H e
  grown_new = rw grown_at (∈-last (f H e) n)

  pub grown_once : ¬ (n ∈ f H e) → ((g d : ℕ) → NoDup (f g d)) → (g d : ℕ) → NoDup (grown f H e n g d)
  grown_once a o g d = by (same_entry? g d H e)
    where
      by : Dec ((g ≡ H) × (d ≡ e)) → NoDup (grown f H e n g d)
      by (yes q) = rw (grown_is g d q) (nodup_snoc (f g d) n (o g d) (rw (q.0, q.1) a))
      by (no q) = rw (grown_other g d q) (o g d)

-- the chain of (H, e), pre ++ n, without n
pub shrunk : (ℕ → ℕ → List ℕ) → ℕ → ℕ → List ℕ → ℕ → ℕ → List ℕ
shrunk f H e pre = upd₂ f H e pre

module _ (f : ℕ → ℕ → List ℕ) (H e n : ℕ) (pre : List ℕ) (is : f H e ≡ pre ++ (n ∷ [])) (o : (g d : ℕ) → NoDup (f g d)) (alone : (g d : ℕ) → n ∈ f g d → (g ≡ H) × (d ≡ e)) where
  pub shrunk_at : shrunk f H e pre H e ≡ pre
  unfolding shrunk
  shrunk_at = upd₂_same f H e pre

  pub shrunk_other : (g d : ℕ) → ¬ ((g ≡ H) × (d ≡ e)) → shrunk f H e pre g d ≡ f g d
  unfolding shrunk
  shrunk_other g d q = upd₂_other f H e pre g d q

  cut : NoDup pre × (¬ (n ∈ pre))
  cut = nodup_init pre n (rw is at (o H e))

  pub shrunk_came : {m g d : ℕ} → m ∈ shrunk f H e pre g d → (m ∈ f g d) × (m ≢ n)
  shrunk_came {m} {g} {d} i = by (same_entry? g d H e)
    where
      by : Dec ((g ≡ H) × (d ≡ e)) → (m ∈ f g d) × (m ≢ n)
      by (yes q) = let j : m ∈ pre = rw (q.0, q.1, shrunk_at) at i in (rw (q.0, q.1, is) (Memᴰ.append_left (n ∷ []) j), λ p. cut.1 (rw p at j))
      by (no q) = let j = rw (shrunk_other g d q) at i in (j, λ p. q (alone g d (rw p at j)))

  pub shrunk_stays : {m g d : ℕ} → m ∈ f g d → m ≢ n → m ∈ shrunk f H e pre g d
  shrunk_stays {m} {g} {d} i p = by (same_entry? g d H e)
    where
      by : Dec ((g ≡ H) × (d ≡ e)) → m ∈ shrunk f H e pre g d
      by (yes q) = rw (q.0, q.1, shrunk_at) (last (Memᴰ.append_cases pre (rw (q.0, q.1, is) at i)))
        where
          last : (m ∈ pre) ⊎ (m ∈ (n ∷ [])) → m ∈ pre
          last (inl j) = j
          last (inr j) = absurd (p (Memᴰ.eq_of_singleton j))
      by (no q) = rw (shrunk_other g d q) i

  pub shrunk_once : (g d : ℕ) → NoDup (shrunk f H e pre g d)
  shrunk_once g d = by (same_entry? g d H e)
    where
      by : Dec ((g ≡ H) × (d ≡ e)) → NoDup (shrunk f H e pre g d)
      by (yes q) = rw (q.0, q.1, shrunk_at) cut.0
      by (no q) = rw (shrunk_other g d q) (o g d)
