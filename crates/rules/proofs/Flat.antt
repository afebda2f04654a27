-- A table that shows a list of pixels, over one call alone: the answer is the list's, and the table shows the list after it.
-- Relies on the answers of a call alone.
use Prim.Native.Nat.{ℕ, zero, suc, ◌<◌}
use mathlib.Core.Path.{◌≡◌, refl, sym, ap, ◌∙◌}
use mathlib.Core.Logic.{◌⊎◌, inl, inr}
use mathlib.Core.Bool.{true, false}
use mathlib.Core.List.{List, [], ◌∷◌, ◌++◌}
use native.Mathlib.Decide.{ℕ_discrete, dec_lt}
use native.Mathlib.Omega.{arith}
use lib.Dec.{eqb, ltb}
use lib.ListN.{length, get_or, length-append}
use lib.Seq.{get_or-append_seam}
use borrow.Author.Tests.{eqb-true, eq-eqb, ne_eqb, lt-ltb, le-ltb, ltb-true}
use Rattle.words.proofs.Choice.{pick-both, pick_true, pick_false}
use Rattle.record.specs.declared.Answer.TheVariants.{New, Found}
use Rattle.rules.specs.Operations.{Result}
use Rattle.rules.specs.Lists.{State, after}
use Rattle.rules.specs.Consequences.{Shown}
use Rattle.rules.specs.AloneAnswers.{NotShown, ShowsSame, ShowsMore, AnswersAlone, finds, places, lacks}
use Rattle.rules.specs.CallsAlone.{index_of, listed, flat_answer, flat_next, ShowsList}

-- the place of a pixel that is in the list holds it
index_at : (p : ℕ) (l : List ℕ) → index_of p l < length l → get_or l (index_of p l) 0 ≡ p
unfolding index_of
index_at p [] h = absurd (omega arith)
index_at p (q ∷ l) h =
    pick-both (λ n. n < suc (length l) → get_or (q ∷ l) n 0 ≡ p) (eqb q p)
    (λ e h. eqb-true _ _ e)
    (λ e h. index_at p l (omega arith))
    h

-- a pixel that some place holds is in the list
index_lt : (p : ℕ) (l : List ℕ) (m : ℕ) → m < length l → get_or l m 0 ≡ p → index_of p l < length l
unfolding index_of
index_lt p [] m h e = absurd (omega arith)
index_lt p (q ∷ l) m h e = by m h e (ℕ_discrete q p) (λ k g f. index_lt p l k g f)
  where
    by : (m : ℕ) → m < suc (length l) → get_or (q ∷ l) m 0 ≡ p → Dec (q ≡ p) → ((k : ℕ) → k < length l → get_or l k 0 ≡ p → index_of p l < length l) → index_of p (q ∷ l) < suc (length l)
    by m h e (yes z) f = rw (pick_true _ 0 (suc (index_of p l)) (eq-eqb q p z), index_of) (omega arith)
    by zero h e (no z) f = absurd (z e)
    by (suc m) h e (no z) f = let g = f m (omega arith) e in rw (pick_false _ 0 (suc (index_of p l)) (ne_eqb q p z), index_of) (omega arith)

get_d_front : (l : List ℕ) (p m : ℕ) → m < length l → get_or (l ++ (p ∷ [])) m 0 ≡ get_or l m 0
get_d_front [] p m h = absurd (omega arith)
get_d_front (q ∷ l) p zero h = refl
get_d_front (q ∷ l) p (suc m) h = get_d_front l p m (omega arith)

module _ {w : ℕ} (p : ℕ) {x : State} (r : Result) {l : List ℕ} (L : ShowsList w x l) where
  -- a pixel that the table shows is listed, at its node
  is_listed : (n : ℕ) → Shown w x p n → listed p l ≡ true
  unfolding listed
  is_listed n h = let (k, e) = (L.shows p n).0 h in lt-ltb _ _ (index_lt p l n k e)

  not_listed : NotShown w x p → listed p l ≡ false
  unfolding listed
  not_listed n = by (dec_lt (index_of p l) (length l))
    where
      by : Dec (index_of p l < length l) → ltb (index_of p l) (length l) ≡ false
      by (yes h) = absurd (n (index_of p l) ((L.shows p (index_of p l)).1 (h, index_at p l h)))
      by (no h) = le-ltb (index_of p l) (length l) (omega arith)

  listed-shown : listed p l ≡ true → Shown w x p (index_of p l)
  unfolding listed
  listed-shown q = let h : index_of p l < length l = ltb-true _ _ q in (L.shows p (index_of p l)).1 (h, index_at p l h)

  as_before : r.reply.settings.nodes_taken ≡ x.settings.nodes_taken → ShowsSame w x (after r) → ShowsList w (after r) l
  as_before t f = record { count = t ∙ L.count; shows = λ q m. (λ h. (L.shows q m).0 ((f q m).0 h), λ h. (f q m).1 ((L.shows q m).1 h)) }

  one_more_lem : r.reply.settings.nodes_taken ≡ suc x.settings.nodes_taken → ShowsMore w x (after r) p x.settings.nodes_taken → ShowsList w (after r) (l ++ (p ∷ []))
  one_more_lem t f = record { count = t ∙ ap suc L.count ∙ sym longer; shows = λ q m. (λ h. from q m ((f q m).0 h), λ h. (f q m).1 (to q m h.0 h.1)) }
    where
      longer : length (l ++ (p ∷ [])) ≡ suc (length l)
      longer = length-append l (p ∷ []) ∙ omega arith

      from : (q m : ℕ) → Shown w x q m ⊎ ((q ≡ p) × (m ≡ x.settings.nodes_taken)) → (m < length (l ++ (p ∷ []))) × (get_or (l ++ (p ∷ [])) m 0 ≡ q)
      from q m (inl h) = let (k, e) = (L.shows q m).0 h in (rw longer (omega arith), get_d_front l p m k ∙ e)
      from q m (inr (e, y)) = let z = y ∙ L.count in (rw longer (omega arith), ap (λ k. get_or (l ++ (p ∷ [])) k 0) z ∙ get_or-append_seam l p [] 0 ∙ sym e)

      to : (q m : ℕ) → m < length (l ++ (p ∷ [])) → get_or (l ++ (p ∷ [])) m 0 ≡ q → Shown w x q m ⊎ ((q ≡ p) × (m ≡ x.settings.nodes_taken))
      to q m h e = by (dec_lt m (length l))
        where
          by : Dec (m < length l) → Shown w x q m ⊎ ((q ≡ p) × (m ≡ x.settings.nodes_taken))
          by (yes k) = inl ((L.shows q m).1 (k, sym (get_d_front l p m k) ∙ e))
          by (no k) =
              let z : m ≡ length l = omega (arith, rw longer at h) in
              inr (sym e ∙ ap (λ j. get_or (l ++ (p ∷ [])) j 0) z ∙ get_or-append_seam l p [] 0, z ∙ sym L.count)

  -- one node for a pixel
  pub flat_call : (nodes : ℕ) → x.settings.nodes ≡ nodes → ((m n : ℕ) → Shown w x p m → Shown w x p n → m ≡ n) → AnswersAlone w p x r → (r.reply.answer ≡ flat_answer nodes l p) × ShowsList w (after r) (flat_next nodes l p)
  unfolding flat_answer flat_next
  flat_call nodes e one (finds n h v t f) =
      let q = is_listed n h in
      (v ∙ ap Found (one n (index_of p l) h (listed-shown q)) ∙ sym (pick_true _ _ _ q), rw (pick_true _ l _ q) (as_before t f))
  flat_call nodes e one (places n room v t f) =
      let q = not_listed n in
      let c : ltb (length l) nodes ≡ true = lt-ltb (length l) nodes (omega (arith, L.count)) in
      (v ∙ ap New L.count ∙ sym (pick_false _ _ _ q ∙ pick_true _ _ _ c), rw (pick_false _ l _ q, pick_true _ (l ++ (p ∷ [])) l c) (one_more_lem t f))
  flat_call nodes e one (lacks n full v t f) =
      let q = not_listed n in
      let c : ltb (length l) nodes ≡ false = le-ltb (length l) nodes (omega (arith, L.count)) in
      (v ∙ sym (pick_false _ _ _ q ∙ pick_false _ _ _ c), rw (pick_false _ l _ q, pick_false _ (l ++ (p ∷ [])) l c) (as_before t f))
