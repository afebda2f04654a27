-- Level and SetLevel: question 6 holds, and the level that is written, the spare one or the next number, is the theory's level in hand.
-- Relies on where the worker stands, on what it holds and on the theory's taking of a level.
use Prim.Native.Nat.{ℕ, suc, ◌+◌, ◌*◌, ◌-◌, ◌≤◌, ◌<◌}
use mathlib.Core.Path.{◌≡◌, refl, sym, ◌∙◌}
use mathlib.Core.Logic.{◌≢◌, ◌⊎◌, inl, inr}
use mathlib.Core.Bool.{true}
use mathlib.Core.List.{List}
use lib.Dec.{eqb}
use native.Mathlib.Numerals.{add-one}
use native.Mathlib.Omega.{arith}
use borrow.Author.Tests.{eqb-true, eqb-false, lt-ltb, le-leb}
use Rattle.words.specs.Digits.{base, depths}
use Rattle.words.proofs.Choice.{pick-both, both_true}
use Rattle.settings.specs.Sizes.{level_count}
use Rattle.settings.specs.declared.Settings.{Settings}
use Rattle.areas.specs.Memory.{Memory, depth_at}
use Rattle.record.specs.declared.Kind.{Kind}
use Rattle.record.specs.declared.Move.{Move}
use Rattle.record.specs.Layout.{Record}
use Rattle.rules.specs.Heads.{holding_level}
use Rattle.rules.specs.Steps.{took_level, with_level, take_level}
use Rattle.rules.specs.Asked.{takes_level, level_left}
use Rattle.trie.proofs.Digits.{digit}
use Rattle.trie.proofs.Update.{upd, upd_same}
use Rattle.trie.proofs.Evolve.{Grows}
use Rattle.trie.proofs.Fresh.{Fresh, owned_taken, fresh_next, fresh_keep}
use Rattle.trie.proofs.TakeLevel as theory
use Rattle.trie.proofs.Stand.{Pos}
use Rattle.trie.proofs.Advance.{Advance}
use Rattle.trie.proofs.Levels.{Levels, levels_stay, levels_new}
use Rattle.trie.proofs.Whole.{Act, idle, Worker, Inv, owner}
use Rattle.trie.proofs.Turns as turns
use Rattle.rules.proofs.Dims.{dims}
use Rattle.rules.proofs.Words.{shows_level}
use Rattle.rules.proofs.Matches.{Doing}
use Rattle.rules.proofs.Invariant.{WorldOf, SameSizes, keeps, At, TurnOk, goes}
use Rattle.rules.proofs.Holding.{level-owner, level_owned, spare-level_ok, level-left, same_count}
use Rattle.rules.proofs.Standing.{Standing, level_ok, depth_here}

module _ {w : ℕ} {s₀ s : Settings} {m : Memory} {W : WorldOf w s₀} {ws : ℕ → Worker} {i : ℕ} {r : Record} (a : At w s₀ s m W ws i r) {P : ℕ → Type 0} {p K H : ℕ} {x : Pos} (o : Standing W P r.head p K H x) where
  pub level-asks : suc (W.tree.depth H) < depths w → takes_level w s r.head m.levels ≡ true
  unfolding takes_level level_left
  level-asks d =
      both_true (level_ok a o) (both_true (spare-level_ok a) (both_true (le-leb (depth_at w m.levels r.head.level + 1) (depths w - 1) (rw (depth_here a o) (omega arith)))
      (pick-both (λ b. b ≡ true) (eqb r.head.held_level 0) (λ e. lt-ltb s.levels_taken (level_count w s) (omega (arith, same_count a, level-left a (sym a.matches.level_is ∙ eqb-true r.head.held_level 0 e)))) (λ e. refl))))

  -- the world with level G in hand
  abbrev pub in_hand : ℕ → WorldOf w s₀
  in_hand G = theory.take_level W G H (suc (W.tree.depth H)) (W.tree.pfx H * base w + digit (dims w s₀.limit) K (W.tree.depth H)) (owner i)

  -- the next kind and its record, and the theory's step to it
  module _ (k : Kind) (vs : List Move) (now : ℕ → Act) (busy : (G : ℕ) → now G ≢ idle) (shows : (G : ℕ) → Doing (holding_level k (G + 1) r.head) vs (now G)) (steps : (G : ℕ) → W.tree.level_owner G ≢ 0 → ((j : ℕ) → j ≢ i → W.tree.level_owner G ≢ owner j) → ((ws i).level ≡ 0) ⊎ ((ws i).level ≡ suc G) → Inv (in_hand G) (upd ws i (turns.does (turns.with_level (ws i) (suc G)) (now G)))) (advance : (G : ℕ) → W.tree.level_owner G ≢ 0 → Advance (level_count w s₀) W (in_hand G) (ws i).key (ws i).act (now G)) where
    -- level G is written; the settings s' count it
    with_level_lem : (s' : Settings) (G : ℕ) → SameSizes s₀ s' → s'.nodes_taken ≡ s.nodes_taken → Fresh (upd W.tree.level_owner G (owner i)) s'.levels_taken → s'.levels_taken ≤ level_count w s₀ → W.tree.level_owner G ≢ 0 → ((j : ℕ) → j ≢ i → W.tree.level_owner G ≢ owner j) → ((ws i).level ≡ 0) ⊎ ((ws i).level ≡ suc G) → ((W' : WorldOf w s₀) (c : Worker) → Grows W W' → c.level ≡ suc G → Levels W' (upd ws i c) s₀.workers s'.levels_taken) → TurnOk w s₀ W ws i (with_level w k s' r.head vs G m)
    unfolding with_level holding_level
    with_level_lem s' G same e fresh le free others had count =
        let c = turns.does (turns.with_level (ws i) (suc G)) (now G) in
        let taken : upd W.tree.level_owner G (owner i) G ≢ 1 = λ y. let z = upd_same W.tree.level_owner G (owner i) in omega arith in
        let room : G < level_count w s₀ = omega (arith, owned_taken fresh G taken) in
        let E = theory.level_grows a.inv.structure free H (suc (W.tree.depth H)) (W.tree.pfx H * base w + digit (dims w s₀.limit) K (W.tree.depth H)) (owner i) (λ y. omega arith) in
        record {
          world = in_hand G;
          worker = c;
          table = record {
            width = a.table.width;
            ranges = a.table.ranges;
            same = same;
            shows = rw (depth_here a o, o.level_is, add-one) (shows_level a.table.shows G H (suc (W.tree.depth H)) room);
            nodes_fresh = rw e a.table.nodes_fresh;
            levels_fresh = fresh;
            nodes_le = rw e a.table.nodes_le;
            levels_le = le;
          };
          inv = steps G free others had;
          levels = count _ c E refl;
          matches = record { pixel_is = a.matches.pixel_is; node_is = a.matches.node_is; level_is = add-one G; doing = shows G };
          rowing = goes E refl (busy G) refl refl;
          falls = λ y. (advance G free).falls;
          dooming = (advance G free).dooming;
          held = keeps (rw e a.table.nodes_fresh) refl;
        }

    -- the next number
    new_level : r.head.held_level ≡ 0 → TurnOk w s₀ W ws i (with_level w k (took_level s) r.head vs s.levels_taken m)
    unfolding took_level
    new_level none =
        let n = s.levels_taken in
        let nobody = a.table.levels_fresh.beyond n (omega arith) in
        let z = sym a.matches.level_is ∙ none in
        with_level_lem (took_level s) n (record { width_is = a.table.same.width_is; workers_is = a.table.same.workers_is; limit_is = a.table.same.limit_is; nodes_is = a.table.same.nodes_is; viewers_is = a.table.same.viewers_is }) refl
        (rw add-one (fresh_next a.table.levels_fresh (owner i) (λ y. omega arith)))
        (omega (arith, level-left a z)) (λ y. omega arith) (λ j d y. omega arith) (inl z)
        (λ W' c E e. rw add-one (levels_new a.levels i a.here c n E z e))

    -- the spare level
    old_level : r.head.held_level ≢ 0 → TurnOk w s₀ W ws i (with_level w k s r.head vs (r.head.held_level - 1) m)
    old_level some =
        let n = r.head.held_level - 1 in
        let is : (ws i).level ≡ suc n = omega (arith, a.matches.level_is) in
        let mine = level-owner a is in
        with_level_lem s n a.table.same refl (fresh_keep a.table.levels_fresh n (owner i) (level_owned a is) (λ y. omega arith)) a.table.levels_le
        (λ y. omega arith) (λ j d y. d (omega arith)) (inr is)
        (λ W' c E e. levels_stay a.levels i a.here c E (e ∙ sym is))

    pub level-turn : TurnOk w s₀ W ws i (take_level w k s r.head vs m)
    unfolding take_level
    level-turn =
        pick-both (TurnOk w s₀ W ws i) (eqb r.head.held_level 0)
        (λ e. new_level (eqb-true _ _ e))
        (λ e. old_level (eqb-false _ _ e))
