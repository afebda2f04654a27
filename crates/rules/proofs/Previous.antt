-- A level that is reached stays reached, with its previous word and its depth.
-- Relies on that every turn lets the world grow, and on that the reached levels are the published ones.
use Prim.Native.Nat.{ℕ}
use mathlib.Core.Path.{◌≡◌, refl, sym, ap, subst, ◌∙◌}
use mathlib.Core.Bool.{Bool, true}
use mathlib.Core.List.{List, [], ◌∷◌}
use native.Mathlib.Decide.{ℕ_discrete}
use Rattle.words.specs.Choice.{every}
use Rattle.words.proofs.Choice.{both_left, both_right}
use Rattle.settings.specs.Sizes.{question1, views}
use Rattle.settings.specs.declared.Settings.{Settings}
use Rattle.areas.specs.Memory.{Memory, level_ref}
use Rattle.record.specs.declared.Answer.{Answer}
use Rattle.rules.specs.Acts.{act}
use Rattle.rules.specs.Operations.{AtWidth, Result, opening_questions, question2_of, record_of, memory_of, started_areas, start, taken, full, turn}
use Rattle.rules.specs.Lists.{State, after}
use Rattle.rules.specs.Reached.{Reached}
use Rattle.rules.specs.Calls.{Event, starts, turns, happens, state_after, Call, Opened}
use Rattle.rules.specs.Previous.{Stays, PreviousStays}
use Rattle.trie.proofs.Tree.{Published}
use Rattle.trie.proofs.Digits.{Dims}
use Rattle.trie.proofs.World.{World}
use Rattle.trie.proofs.Whole.{Worker}
use Rattle.rules.proofs.Dims.{Width}
use Rattle.rules.proofs.Carried.{opening_done, start_done}
use Rattle.rules.proofs.OneTurn.{done_number, nine_is_full, turn-refused}
use Rattle.rules.proofs.Refused.{refuses-opening, refuses-start}
use Rattle.rules.proofs.Invariant.{Rowing, goes, ends_new_lem, ends_found, ends_absent}
use Rattle.rules.proofs.Reading.{not_free, previous_reads, depth_reads}
use Rattle.rules.proofs.Reach.{reached_published, published_reached}
use Rattle.rules.proofs.Along.{Along, top-stays}
use Rattle.rules.proofs.Opened.{along_opened}
use Rattle.rules.proofs.Sequence.{event_along, run_along}
use Rattle.rules.proofs.TurnEvent.{carried_ok}
use Rattle.rules.proofs.Theorem.{opened-width}

-- nothing changes
same : {w : ℕ} {m : Memory} {g : ℕ} → Reached w m (level_ref g) → Stays w m m g
same r = record { previous_stays = refl; depth_stays = refl; reached_stays = r }

-- one after the other
stays_then : {w : ℕ} {m m' m'' : Memory} {g : ℕ} → Stays w m m' g → Stays w m' m'' g → Stays w m m'' g
stays_then p q = record { previous_stays = q.previous_stays ∙ p.previous_stays; depth_stays = q.depth_stays ∙ p.depth_stays; reached_stays = q.reached_stays }

-- a level of the world stays over a turn
record Lasts {δ : Dims} (W W' : World δ) (g : ℕ) : Type 0 where
  pub published : Published W'.tree g
  pub prev_is : W'.tree.prev g ≡ W.tree.prev g
  pub depth_is : W'.tree.depth g ≡ W.tree.depth g

lasts : {δ : Dims} {W W' : World δ} {c c' : Worker} {v : Answer} (g : ℕ) → Published W.tree g → Rowing W W' c c' v → Lasts W W' g
lasts g p (goes E b n e y) = record { published = E.published g p; prev_is = E.prev_is g p; depth_is = E.depth_is g p }
lasts g p (ends_new_lem k q e z) = record { published = ap (λ U. U.tree.level_owner g) e ∙ p; prev_is = ap (λ U. U.tree.prev g) e; depth_is = ap (λ U. U.tree.depth g) e }
lasts g p (ends_found k q e z) = record { published = ap (λ U. U.tree.level_owner g) e ∙ p; prev_is = ap (λ U. U.tree.prev g) e; depth_is = ap (λ U. U.tree.depth g) e }
lasts g p (ends_absent u e z) = record { published = ap (λ U. U.tree.level_owner g) e ∙ p; prev_is = ap (λ U. U.tree.prev g) e; depth_is = ap (λ U. U.tree.depth g) e }

module _ {w : ℕ} {s₀ : Settings} {x : State} {k : ℕ} {os : List Opened} {cs : List Call} (a : Along w s₀ x k os cs) (g : ℕ) (r : Reached w (memory_of x.areas) (level_ref g)) where
  -- from this state to the one that an operation leaves
  abbrev StaysIn : Result → Type 0
  StaysIn y = Stays w (memory_of x.areas) (memory_of y.areas) g

  taken-stays : (i : ℕ) → (turn w x.settings i x.areas).reply.number ≡ 0 → StaysIn (taken (act w (views x.settings i) x.settings (record_of x.areas i) (memory_of x.areas)) i x.areas.workers)
  unfolding taken
  taken-stays i z =
      let K = carried_ok a i z in
      let T = a.fine.table in
      let p = reached_published T a.fine.inv.structure a.top g r in
      let L = lasts g p K.rowing in
      record {
        previous_stays = previous_reads K.table g (not_free L.published) ∙ (L.prev_is ∙ sym (previous_reads T g (not_free p)));
        depth_stays = depth_reads K.table g (not_free L.published) ∙ (L.depth_is ∙ sym (depth_reads T g (not_free p)));
        reached_stays = published_reached K.table K.inv.structure (top-stays a.fine a.top K.rowing) g L.published;
      }

  full-stays : (i : ℕ) → StaysIn (full x.settings i x.areas)
  unfolding full
  full-stays i = same r

  turn-stays : (i : ℕ) → StaysIn (turn w x.settings i x.areas)
  turn-stays i = by (ℕ_discrete (turn w x.settings i x.areas).reply.number 0) (ℕ_discrete (turn w x.settings i x.areas).reply.number 9)
    where
      by : Dec ((turn w x.settings i x.areas).reply.number ≡ 0) → Dec ((turn w x.settings i x.areas).reply.number ≡ 9) → StaysIn (turn w x.settings i x.areas)
      by (yes z) d = subst StaysIn (sym (done_number w x.settings i x.areas z)) (taken-stays i z)
      by (no z) (yes y) = subst StaysIn (sym (nine_is_full w x.settings i x.areas y)) (full-stays i)
      by (no z) (no y) = subst StaysIn (sym (turn-refused w x.settings i x.areas z y)) (same r)

  start-stays : (looks : Bool) (i row column : ℕ) → StaysIn (start w x.settings looks i row column x.areas)
  unfolding started_areas
  start-stays looks i row column = by (ℕ_discrete (start w x.settings looks i row column x.areas).reply.number 0)
    where
      by : Dec ((start w x.settings looks i row column x.areas).reply.number ≡ 0) → StaysIn (start w x.settings looks i row column x.areas)
      by (yes z) = subst StaysIn (sym (start_done w x.settings looks i row column x.areas z)) (same r)
      by (no z) = subst StaysIn (sym ((refuses-start w x.settings looks i row column x.areas).unchanged z).0) (same r)

  event_stays : (e : Event) → StaysIn (happens w e x)
  unfolding happens
  event_stays (starts looks i row column) = start-stays looks i row column
  event_stays (turns i) = turn-stays i

-- any events more
sequence_stays : {w : ℕ} {s₀ : Settings} (es : List Event) (x : State) {k : ℕ} {os : List Opened} {cs : List Call} → Along w s₀ x k os cs → (g : ℕ) → Reached w (memory_of x.areas) (level_ref g) → Stays w (memory_of x.areas) (memory_of (state_after w es x).areas) g
unfolding state_after
sequence_stays [] x a g r = same r
sequence_stays {w} (e ∷ es) x a g r =
    let k = event_stays a g r e in
    stays_then k (sequence_stays es (after (happens w e x)) (event_along a e) g k.reached_stays)

-- over every width whose digits fit the pixel numbers
pub previous_stays : (w : ℕ) → Width w → (s : Settings) → PreviousStays w s
unfolding opening_questions every
previous_stays w width s a z =
    let y = (refuses-opening w s a).numbered.carried.0 z in
    let y₁ : question1 s ≡ true = both_left _ _ y in
    let y₂ : question2_of w s a ≡ true = both_left _ _ (both_right _ _ y) in
    rw (opening_done w s a z)
    (λ before more g r. sequence_stays more _ (run_along before _ 0 [] [] (along_opened width s a y₁ y₂)).along g r)

-- document 02's tables, each at the width that its settings give
pub previous_stays-all : AtWidth PreviousStays
previous_stays-all s a z = previous_stays s.width (opened-width s.width s a z) s a z
