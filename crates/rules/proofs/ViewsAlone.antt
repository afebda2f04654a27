-- A viewer's call that has all turns to itself: "found" with the node of its pixel if that is placed, else "absent".
-- Relies on that it ends, on the answers to a viewer, and on that the reached nodes are the placed ones.
use Prim.Native.Nat.{ℕ, zero, suc, ◌<◌}
use mathlib.Core.Path.{◌≡◌, refl, sym, ap, ap₂, subst, ◌∙◌}
use mathlib.Core.Bool.{true, false}
use mathlib.Core.List.{List, []}
use native.Mathlib.Omega.{arith}
use Rattle.words.specs.Choice.{pick}
use Rattle.words.specs.Digits.{pixel_number}
use Rattle.settings.specs.Sizes.{level_count, views}
use Rattle.settings.specs.declared.Settings.{Settings}
use Rattle.areas.specs.Memory.{Memory, memory, node_ref, none, pixel_at}
use Rattle.record.specs.declared.Answer.{Answer}
use Rattle.rules.specs.Acts.{act}
use Rattle.rules.specs.Asked.{question7, question17}
use Rattle.rules.specs.Operations.{AtWidth, Result, record_of, memory_of, started_areas, taken, full, start, turn}
use Rattle.rules.specs.Lists.{State, after}
use Rattle.rules.specs.Calls.{Call, Opened}
use Rattle.rules.specs.Reached.{Reached}
use Rattle.rules.specs.Consequences.{Shown}
use Rattle.rules.specs.Alone.{goes_on, run_alone, alone_turns}
use Rattle.rules.specs.AloneAnswers.{ViewsAlone, finds, misses, ViewsStatement}
use Rattle.rules.specs.Viewers.{ToViewer, OnlyLooks}
use Rattle.rules.specs.Viewers as viewers
use Rattle.trie.proofs.Update.{upd, upd_same}
use Rattle.trie.proofs.Measure.{measure, measure-lt}
use Rattle.trie.proofs.Whole.{Worker}
use Rattle.rules.proofs.Invariant.{WorldOf, Rowing, goes, ends_found, ends_absent, TurnOk, Fine, views_same}
use Rattle.rules.proofs.Dims.{Width}
use Rattle.rules.proofs.Carried.{opening_done, start_done}
use Rattle.rules.proofs.Refused.{refuses-opening, refuses-start}
use Rattle.rules.proofs.Along.{Along, below, top-stays}
use Rattle.rules.proofs.Starting.{start_yes, starter, fine_started}
use Rattle.rules.proofs.Opened.{along_opened}
use Rattle.rules.proofs.Sequence.{run_along}
use Rattle.rules.proofs.Theorem.{opening_yes, opened-width}
use Rattle.rules.proofs.Turned.{still_searching}
use Rattle.rules.proofs.Idle.{acts_busy}
use Rattle.rules.proofs.Viewers.{never_nine, viewers_look}
use Rattle.rules.proofs.Alone.{turns_are}
use Rattle.rules.proofs.AloneTurn.{TurnIs, carried, filled, turn_is, fine_turned}
use Rattle.rules.proofs.AloneAnswers.{shown-noted, noted-shown, ends-here, goes_on_lem}

-- what is shown is read off the nodes and the levels
shown-stays : {w : ℕ} {x y : State} {p n : ℕ} → x.areas.nodes ≡ y.areas.nodes → x.areas.levels ≡ y.areas.levels → Shown w x p n → Shown w y p n
shown-stays {w} {x} {y} {p} {n} a b h = record { reached = subst (λ (m : Memory). Reached w m (node_ref n)) (ap₂ memory a b) h.reached; pixel_is = subst (λ (l : List ℕ). pixel_at l n ≡ p) a h.pixel_is }

-- a call of worker i for pixel p that started in state x₀
module _ (w i : ℕ) (s₀ : Settings) (here : i < s₀.workers) (view : views s₀ i ≡ true) (p : ℕ) (x₀ : State) where
  -- amid the call
  record Looking (x : State) (W : WorldOf w s₀) (c : Worker) : Type 0 where
    nodes_stay : x.areas.nodes ≡ x₀.areas.nodes
    levels_stay : x.areas.levels ≡ x₀.areas.levels
    top : W.tree.prev 0 ≡ none
    key_is : c.key ≡ p

  abbrev Runs : ℕ → Type 0
  Runs n = (x : State) (W : WorldOf w s₀) (ws : ℕ → Worker) (F : Fine w s₀ x W ws) → question7 (record_of x.areas i) ≡ false → measure (level_count w s₀) W (ws i).act < n → Looking x W (ws i) → ViewsAlone w p x₀ (run_alone w n i x)

  runs : (n : ℕ) → Runs n
  unfolding taken full goes_on
  runs zero x W ws F busy h k = absurd (omega arith)
  runs (suc n) x W ws F busy h k = by (runs n) (turn_is F i here busy)
    where
      r : Result
      r = turn w x.settings i x.areas

      now : views x.settings i ≡ true
      now = views_same i F.table.same ∙ view

      looks : OnlyLooks x.settings x.areas r
      looks = viewers_look w x.settings i x.areas now

      mine : (c : Worker) → upd ws i c i ≡ c
      mine c = upd_same ws i c

      on : Runs n → (T : TurnOk w s₀ W ws i (act w (views x.settings i) x.settings (record_of x.areas i) (memory_of x.areas))) → r ≡ taken (act w (views x.settings i) x.settings (record_of x.areas i) (memory_of x.areas)) i x.areas.workers → {v : Answer} → ToViewer v → r.reply.answer ≡ v → Rowing W T.world (ws i) T.worker v → ViewsAlone w p x₀ (run_alone w (suc n) i x)
      on f T e viewers.stays_open a (goes E b z q y) =
          let F' = fine_turned F i here busy T e in
          let M = rw (mine T.worker) at (F'.records i here) in
          let l = (T.falls z).less in
          let C : Looking (after r) T.world T.worker = record { nodes_stay = looks.nodes_stay ∙ k.nodes_stay; levels_stay = looks.levels_stay ∙ k.levels_stay; top = top-stays F k.top T.rowing; key_is = y ∙ k.key_is } in
          goes_on_lem w i (ViewsAlone w p x₀) n x (ap goes_on a) (f _ _ _ F' (acts_busy M z) (rw (ap (λ (c : Worker). c.act) (mine T.worker)) (omega arith)) (rw (mine T.worker) C))
      on f T e (viewers.found R) a (ends_found j q u g) =
          ends-here w i (ViewsAlone w p x₀) n x (ap goes_on a) (finds R (shown-stays k.nodes_stay k.levels_stay (noted-shown F k.top (F.inv.partition.noted R j) (q ∙ k.key_is))) a)
      on f T e viewers.absent a (ends_absent m u g) =
          ends-here w i (ViewsAlone w p x₀) n x (ap goes_on a) (misses (λ n h. let (j, q) = shown-noted F k.top (shown-stays (sym k.nodes_stay) (sym k.levels_stay) h) in m n (F.inv.partition.noted-placed n j) (q ∙ sym k.key_is)) a)
      on f T e viewers.refused a g = elim g [ ]

      by : Runs n → TurnIs F i here busy → ViewsAlone w p x₀ (run_alone w (suc n) i x)
      by f (carried e T) = let a = ap (λ (u : Result). u.reply.answer) e in on f T e (subst ToViewer a looks.answers) a T.rowing
      by f (filled e q) = absurd (never_nine w x.settings i x.areas now (ap (λ (u : Result). u.reply.number) e))

-- a looking call is a viewer's
looking_call : (s : Settings) (i : ℕ) → question17 s true i ≡ true → views s i ≡ true
unfolding question17 pick
looking_call s i q = q

-- a start that is carried out, in a state of a sequence
views_of : {w : ℕ} {s₀ : Settings} {x : State} {k : ℕ} {os : List Opened} {cs : List Call} (a : Along w s₀ x k os cs) (i row column : ℕ) → (start w x.settings true i row column x.areas).reply.number ≡ 0 → ViewsAlone w (pixel_number row column) x (run_alone w (alone_turns w s₀) i (after (start w x.settings true i row column x.areas)))
unfolding started_areas
views_of {w} {s₀} {x} a i row column z =
    let F = a.fine in
    let y = start_yes w x true i row column ((refuses-start w x.settings true i row column x.areas).numbered.carried.0 z) in
    let h = below a y.below in
    let v = sym (views_same i F.table.same) ∙ looking_call x.settings i y.right in
    let G = fine_started F i row column h y.inside in
    let mine = upd_same a.workers i (starter F i row column h y.inside) in
    let M = rw mine at (G.records i h) in
    let l = measure-lt G.inv.structure (level_count w s₀) (G.inv.each i).acts in
    rw (start_done w x.settings true i row column x.areas z, turns_are w s₀)
    (runs w i s₀ h v (pixel_number row column) x _ _ _ _ G (acts_busy M still_searching) l (record { nodes_stay = refl; levels_stay = refl; top = a.top; key_is = ap (λ (c : Worker). c.key) mine }))

-- over every width whose digits fit the pixel numbers
pub views-alone : (w : ℕ) → Width w → (s : Settings) → ViewsStatement w s
views-alone w width s a z =
    let y = (refuses-opening w s a).numbered.carried.0 z in
    let b = along_opened width s a (opening_yes w s a y).0 (opening_yes w s a y).1 in
    rw (opening_done w s a z) (λ es i row column. views_of (run_along es _ 0 [] [] b).along i row column)

-- document 02's tables, each at the width that its settings give
pub views-alone-all : AtWidth ViewsStatement
views-alone-all s a z = views-alone s.width (opened-width s.width s a z) s a z
