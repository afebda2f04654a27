-- The answer of a call that starts with no spare node and has all turns to itself.
-- Relies on that it ends, on what it holds along its turns, and on that the reached nodes are the placed ones.
use Rattle.words.specs.Choice.{pick}
use Rattle.rules.proofs.Tells.{act_tells}
use borrow.Author.Tests.{not-true}
use Prim.Native.Nat.{ℕ, zero, suc, ◌<◌}
use mathlib.Core.Path.{◌≡◌, refl, sym, ap, subst, ◌∙◌}
use mathlib.Core.Logic.{◌⊎◌, inl, inr}
use mathlib.Core.Bool.{true, false}
use mathlib.Core.List.Memᴰ
use mathlib.Core.List.{List, [], ◌∷◌, ◌++◌}
use native.Mathlib.Omega.{arith}
use Rattle.words.specs.Digits.{pixel_number}
use Rattle.words.proofs.Choice.{pick_true, pick_false, true_false}
use Rattle.settings.specs.Sizes.{level_count, views}
use Rattle.settings.specs.declared.Settings.{Settings}
use Rattle.areas.specs.Memory.{none}
use Rattle.record.specs.declared.Answer.{Answer}
use Rattle.record.specs.declared.Answer.TheVariants.{New, Full}
use Rattle.rules.specs.Acts.{act}
use Rattle.rules.specs.Asked.{question7, question17}
use Rattle.rules.specs.Operations.{AtWidth, Result, record_of, memory_of, taken, full, turn, start}
use Rattle.rules.specs.Lists.{State, after}
use Rattle.rules.specs.Calls.{Call, Opened}
use Rattle.rules.specs.Consequences.{Shown}
use Rattle.rules.specs.Alone.{goes_on, run_alone, alone_turns}
use Rattle.rules.specs.AloneAnswers.{NoSpare, NotShown, ShowsSame, ShowsMore, AnswersAlone, finds, places, lacks, CallAlone, AnswersStatement}
use Rattle.trie.proofs.Update.{upd, upd_same}
use Rattle.trie.proofs.Lists.{◌∈◌, ∈-last}
use Rattle.trie.proofs.Measure.{measure, measure-lt}
use Rattle.trie.proofs.Whole.{idle, Worker}
use Rattle.rules.proofs.Invariant.{WorldOf, Rowing, goes, ends_new_lem, ends_found, Held, TurnOk, Fine, at, ends_absent, views_same}
use Rattle.rules.proofs.Dims.{Width}
use Rattle.rules.proofs.Reading.{not_free, pixel_reads}
use Rattle.rules.proofs.Reach.{reached_placed, placed_reached}
use Rattle.rules.proofs.Carried.{opening_done, start_done}
use Rattle.rules.proofs.Refused.{refuses-opening, refuses-start}
use Rattle.rules.proofs.Along.{Along, below}
use Rattle.rules.proofs.Starting.{start_yes, starter, fine_started}
use Rattle.rules.proofs.Opened.{along_opened}
use Rattle.rules.proofs.Sequence.{run_along}
use Rattle.rules.proofs.Theorem.{opening_yes, opened-width}
use Rattle.rules.proofs.Turned.{still_searching}
use Rattle.rules.proofs.Alone.{turns_are}
use Rattle.rules.proofs.Ending.{none_left, full_unseen, stopped, fine_full}
use Rattle.rules.proofs.Idle.{acts_busy, idle_rests, open_of}
use Rattle.rules.proofs.AloneTurn.{TurnIs, carried, filled, turn_is, fine_turned}
use Rattle.rules.proofs.AloneHolds.{Missing, Calm, nothing, Ended, is_new, is_found, is_full, Over, calm_on, calm_new, calm_found, calm_full}

-- what is shown from the root: the nodes of the book with their pixels
module _ {w : ℕ} {s₀ : Settings} {x : State} {W : WorldOf w s₀} {ws : ℕ → Worker} (F : Fine w s₀ x W ws) (top : W.tree.prev 0 ≡ none) where
  pub shown-noted : {q m : ℕ} → Shown w x q m → (m ∈ W.book) × (W.pixel m ≡ q)
  shown-noted {q} {m} h =
      let p = reached_placed F.table F.inv.structure top m h.reached in
      (F.inv.partition.noted m p, sym (pixel_reads F.table m (not_free p)) ∙ h.pixel_is)

  pub noted-shown : {q m : ℕ} → m ∈ W.book → W.pixel m ≡ q → Shown w x q m
  noted-shown {q} {m} i e =
      let p = F.inv.partition.noted-placed m i in
      record { reached = placed_reached F.table F.inv.structure top m p; pixel_is = pixel_reads F.table m (not_free p) ∙ e }

  -- a pixel is shown at one node
  pub one_shown : {p m n : ℕ} → Shown w x p m → Shown w x p n → m ≡ n
  one_shown {p} {m} {n} g h =
      let (j, e) = shown-noted g in
      let (k, f) = shown-noted h in
      let Q = F.inv.partition in
      Q.one_node m n (Q.noted-placed m j) (Q.noted-placed n k) (e ∙ sym f)

  -- and none where no node is taken
  pub none-shown : x.settings.nodes_taken ≡ 0 → (q m : ℕ) → ¬ (Shown w x q m)
  none-shown z q m h =
      let p = reached_placed F.table F.inv.structure top m h.reached in
      let o = F.table.nodes_fresh.beyond m (omega arith) in
      omega arith

-- the run over one turn: what is said of its result
module _ (w i : ℕ) (P : Result → Type 0) (n : ℕ) (x : State) where
  -- the turn ends the call
  pub ends-here : goes_on (turn w x.settings i x.areas).reply.answer ≡ false → P (turn w x.settings i x.areas) → P (run_alone w (suc n) i x)
  unfolding run_alone
  ends-here g l = subst P (sym (pick_false _ _ _ g)) l

  -- the call goes on after it
  pub goes_on_lem : goes_on (turn w x.settings i x.areas).reply.answer ≡ true → P (run_alone w n i (after (turn w x.settings i x.areas))) → P (run_alone w (suc n) i x)
  unfolding run_alone
  goes_on_lem g l = subst P (sym (pick_true _ _ _ g)) l

module _ (w i : ℕ) (s₀ : Settings) (here : i < s₀.workers) (placing : views s₀ i ≡ false) (B : List ℕ) (P : ℕ → ℕ) (K t₀ : ℕ) where
  -- the state after the last turn
  pub record Leaves (r : Result) : Type 0 where
    pub world : WorldOf w s₀
    pub workers : ℕ → Worker
    pub fine : Fine w s₀ (after r) world workers
    pub rests : (workers i).act ≡ idle
    pub over : Over B P K t₀ s₀.nodes world (workers i).node r.reply.settings.nodes_taken r.reply.answer

  abbrev Runs : ℕ → Type 0
  Runs n = (x : State) (W : WorldOf w s₀) (ws : ℕ → Worker) (F : Fine w s₀ x W ws) → question7 (record_of x.areas i) ≡ false → measure (level_count w s₀) W (ws i).act < n → Calm B P K t₀ W (ws i) x.settings.nodes_taken → Leaves (run_alone w n i x)

  runs : (n : ℕ) → Runs n
  unfolding taken full goes_on
  runs zero x W ws F busy h k = absurd (omega arith)
  runs (suc n) x W ws F busy h k = by (runs n) (turn_is F i here busy)
    where
      r : Result
      r = turn w x.settings i x.areas

      mine : (c : Worker) → upd ws i c i ≡ c
      mine c = upd_same ws i c

      on : Runs n → (T : TurnOk w s₀ W ws i (act w (views x.settings i) x.settings (record_of x.areas i) (memory_of x.areas))) → r ≡ taken (act w (views x.settings i) x.settings (record_of x.areas i) (memory_of x.areas)) i x.areas.workers → {v : Answer} → r.reply.answer ≡ v → Rowing W T.world (ws i) T.worker v → Held W (ws i) T.worker.node r.reply.settings.nodes_taken v → Leaves (run_alone w (suc n) i x)
      on f T e a (goes E b z p q) d =
          let F' = fine_turned F i here busy T e in
          let M = rw (mine T.worker) at (F'.records i here) in
          let l = (T.falls z).less in
          let C = calm_on B P K t₀ k F.inv.structure F.inv.partition F.table.nodes_fresh {W' = T.world} {c' = T.worker} (F.inv.each i).acts (goes E b z p q) d in
          goes_on_lem w i Leaves n x (ap goes_on a) (f _ _ _ F' (acts_busy M z) (rw (ap (λ (c : Worker). c.act) (mine T.worker)) (omega arith)) (rw (mine T.worker) C))
      on f T e a (ends_new_lem c p u g) d =
          let F' = fine_turned F i here busy T e in
          ends-here w i Leaves n x (ap goes_on a) (record { world = T.world; workers = upd ws i T.worker; fine = F'; rests = rw (mine T.worker) g; over = rw (mine T.worker, a) (calm_new B P K t₀ k F.inv.structure F.inv.partition F.table.nodes_fresh {W' = T.world} {c' = T.worker} s₀.nodes (ends_new_lem c p u g) d) })
      on f T e a (ends_found p q u g) d =
          let F' = fine_turned F i here busy T e in
          ends-here w i Leaves n x (ap goes_on a) (record { world = T.world; workers = upd ws i T.worker; fine = F'; rests = rw (mine T.worker) g; over = rw (mine T.worker, a) (calm_found B P K t₀ k F.inv.structure F.inv.partition F.table.nodes_fresh {W' = T.world} {c' = T.worker} s₀.nodes (ends_found p q u g) d) })
      on f T e a (ends_absent p u g) d =
          let t = act_tells w (views x.settings i) x.settings (record_of x.areas i) (memory_of x.areas) (open_of (record_of x.areas i) busy) in
          let q = t.viewer (sym (ap (λ (u : Result). u.reply.answer) e) ∙ a) in
          absurd (true_false (sym q ∙ (views_same i F.table.same ∙ placing)))

      by : Runs n → TurnIs F i here busy → Leaves (run_alone w (suc n) i x)
      by f (carried e T) = let a = ap (λ (u : Result). u.reply.answer) e in on f T e a T.rowing (rw (ap (λ (u : Result). u.reply.settings.nodes_taken) e) T.held)
      by f (filled e q) =
          let N = none_left x.settings (record_of x.areas i) q in
          let a : r.reply.answer ≡ Full = ap (λ (u : Result). u.reply.answer) e in
          let t : r.reply.settings.nodes_taken ≡ x.settings.nodes_taken = ap (λ (u : Result). u.reply.settings.nodes_taken) e in
          let F' = subst (λ (u : Result). Fine w s₀ (after u) W (upd ws i (stopped (ws i)))) (sym e) (fine_full F i here N.taking) in
          let z : (ws i).node ≡ 0 = sym (F.records i here).node_is ∙ N.holds_none in
          let o = calm_full B P K t₀ k s₀.nodes (full_unseen (at F i here) N.taking) z (omega (arith, N.all-taken, F.table.same.nodes_is)) in
          ends-here w i Leaves n x (ap goes_on a) (record { world = W; workers = upd ws i (stopped (ws i)); fine = F'; rests = rw (mine (stopped (ws i))) refl; over = rw (mine (stopped (ws i)), a, t) o })

-- said of the words
module _ {w : ℕ} {s₀ : Settings} {x : State} {W : WorldOf w s₀} {ws : ℕ → Worker} (F : Fine w s₀ x W ws) (top : W.tree.prev 0 ≡ none) (i : ℕ) (here : i < s₀.workers) (placing : views s₀ i ≡ false) (p : ℕ) {r : Result} (L : Leaves w i s₀ here placing W.book W.pixel p x.settings.nodes_taken r) where
  not-shown : Missing W.book W.pixel p x.settings.nodes_taken → NotShown w x p
  not-shown m n h = let (j, e) = shown-noted F top h in m n j e

  same : L.world.book ≡ W.book → ShowsSame w x (after r)
  same b q m = (
    λ h. let (j, e) = shown-noted L.fine L.over.top h in let j' = rw b at j in noted-shown F top j' (sym (L.over.pixels m j') ∙ e),
    λ h. let (j, e) = shown-noted F top h in noted-shown L.fine L.over.top (rw b j) (L.over.pixels m j ∙ e),
  )

  more : L.world.book ≡ W.book ++ (x.settings.nodes_taken ∷ []) → L.world.pixel x.settings.nodes_taken ≡ p → ShowsMore w x (after r) p x.settings.nodes_taken
  more b z q m = (λ h. let (j, e) = shown-noted L.fine L.over.top h in from e (Memᴰ.append_cases W.book (rw b at j)), to)
    where
      from : L.world.pixel m ≡ q → (m ∈ W.book) ⊎ (m ∈ (x.settings.nodes_taken ∷ [])) → Shown w x q m ⊎ ((q ≡ p) × (m ≡ x.settings.nodes_taken))
      from e (inl j) = inl (noted-shown F top j (sym (L.over.pixels m j) ∙ e))
      from e (inr j) = let y = Memᴰ.eq_of_singleton j in inr (sym e ∙ ap L.world.pixel y ∙ z, y)

      to : Shown w x q m ⊎ ((q ≡ p) × (m ≡ x.settings.nodes_taken)) → Shown w (after r) q m
      to (inl h) = let (j, e) = shown-noted F top h in noted-shown L.fine L.over.top (rw b (Memᴰ.append_left (x.settings.nodes_taken ∷ []) j)) (L.over.pixels m j ∙ e)
      to (inr (e, y)) = noted-shown L.fine L.over.top (rw (b, y) (∈-last W.book x.settings.nodes_taken)) (rw (e, y) z)

  answered : {v : Answer} → r.reply.answer ≡ v → Ended W.book W.pixel p x.settings.nodes_taken s₀.nodes L.world r.reply.settings.nodes_taken v → AnswersAlone w p x r
  answered a (is_new e m b z t) =
      let l = L.fine.table.nodes_le in
      places (not-shown m) (omega (arith, l, F.table.same.nodes_is)) (a ∙ ap New e) t (more b z)
  answered a (is_found {R} j e b t) = finds R (noted-shown F top j e) a t (same b)
  answered a (is_full m b t l) = lacks (not-shown m) (omega (arith, F.table.nodes_le, F.table.same.nodes_is)) a t (same b)

  pub call_alone_lem : CallAlone w i p x r
  call_alone_lem = record { answers = answered refl L.over.ended; no_spare = (L.fine.records i here).node_is ∙ L.over.empty; idle = idle_rests (L.fine.records i here) L.rests }

-- a placing call is no viewer's
pub placing_call : (s : Settings) (i : ℕ) → question17 s false i ≡ true → views s i ≡ false
unfolding question17 pick
placing_call s i q = not-true _ q

pub right_false : (s : Settings) (i : ℕ) → views s i ≡ false → question17 s false i ≡ true
unfolding question17 pick
right_false s i e = rw e refl

-- a start that is carried out, in a state of a sequence
pub answers_of : {w : ℕ} {s₀ : Settings} {x : State} {k : ℕ} {os : List Opened} {cs : List Call} (a : Along w s₀ x k os cs) (i row column : ℕ) → (start w x.settings false i row column x.areas).reply.number ≡ 0 → NoSpare x i → CallAlone w i (pixel_number row column) x (run_alone w (alone_turns w s₀) i (after (start w x.settings false i row column x.areas)))
answers_of {w} {s₀} {x} a i row column z n =
    let F = a.fine in
    let y = start_yes w x false i row column ((refuses-start w x.settings false i row column x.areas).numbered.carried.0 z) in
    let h = below a y.below in
    let v = sym (views_same i F.table.same) ∙ placing_call x.settings i y.right in
    let c = starter F i row column h y.inside in
    let G = fine_started F i row column h y.inside in
    let mine = upd_same a.workers i c in
    let M = rw mine at (G.records i h) in
    let l = measure-lt G.inv.structure (level_count w s₀) (G.inv.each i).acts in
    let k : Calm a.world.book a.world.pixel (pixel_number row column) x.settings.nodes_taken a.world c x.settings.nodes_taken = record { book_is = refl; pixels = λ m j. refl; top = a.top; key_is = refl; since_is = refl; holds = nothing (sym (F.records i h).node_is ∙ n) refl } in
    rw (start_done w x.settings false i row column x.areas z, turns_are w s₀)
    (call_alone_lem F a.top i h v (pixel_number row column) (runs w i s₀ h v a.world.book a.world.pixel (pixel_number row column) x.settings.nodes_taken _ _ _ _ G (acts_busy M still_searching) l (rw mine k)))

-- over every width whose digits fit the pixel numbers
pub alone_answers : (w : ℕ) → Width w → (s : Settings) → AnswersStatement w s
alone_answers w width s a z =
    let y = (refuses-opening w s a).numbered.carried.0 z in
    let b = along_opened width s a (opening_yes w s a y).0 (opening_yes w s a y).1 in
    rw (opening_done w s a z) (λ es i row column. answers_of (run_along es _ 0 [] [] b).along i row column)

-- document 02's tables, each at the width that its settings give
pub alone_answers_all : AtWidth AnswersStatement
alone_answers_all s a z = alone_answers s.width (opened-width s.width s a z) s a z
