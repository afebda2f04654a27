-- Effects E5 and E7: the end of a chain that is moving is pointed elsewhere inside the child (SetNext), or, where the chain is empty, to the child (MoveEnd).
-- Relies on Digits, Update, Chain, Tree, World, Evolve and Frame.
use mathlib.Core.Path.{◌≡◌, refl, sym, ap, ◌∙◌}
use mathlib.Core.Logic.{◌≢◌}
use mathlib.Core.List.{[]}
use Prim.Native.Nat.{ℕ, ◌<◌}
use Rattle.trie.proofs.Digits.{Dims}
use Rattle.trie.proofs.Update.{ent, nxt, upd_c, upd_c_same, upd_c_other, same_entry?}
use Rattle.trie.proofs.Chain.{level_ref, ent_nxt, links_end}
use Rattle.trie.proofs.Tree.{Published}
use Rattle.trie.proofs.World.{World, last_cell, RefInside, SlotOk, Structure}
use Rattle.trie.proofs.Evolve.{Grows, Spares, same, none-noted, grows_tree, ref_stays, homed_stays}
use Rattle.trie.proofs.Frame.{ends_apart, held_away, level_away, slot_other}

-- the end of the chain of (H, e) becomes r; `mover` after it is mv
abbrev pub redirect : {δ : Dims} → World δ → ℕ → ℕ → ℕ → (ℕ → ℕ) → World δ
redirect w H e r mv =
    record {
      tree = w.tree;
      pixel = w.pixel;
      cell = upd_c w.cell (last_cell w H e) r;
      node_owner = w.node_owner;
      chain = w.chain;
      home = w.home;
      mover = mv;
      book = w.book;
    }

pub record CanRedirect {δ : Dims} (w : World δ) (H e r : ℕ) : Type 0 where
  pub level : Published w.tree H
  pub at : e < δ.base
  pub closed : w.tree.into H e ≢ 0
  pub inside : RefInside w (w.tree.into H e) r
  -- an empty chain's entry leads to a node or straight to the child
  pub straight : (t : ℕ) → w.chain H e ≡ [] → r ≡ level_ref t → t ≡ w.tree.into H e

module _ {δ : Dims} {w : World δ} (S : Structure w) {H e r : ℕ} (k : CanRedirect w H e r) (mv : ℕ → ℕ) where
  abbrev after : World δ
  after = redirect w H e r mv

  pub redirect_grows : Grows w after
  redirect_grows = grows_tree refl (λ m p. refl) (λ c m i. record { placed = i.placed; inside = i.inside }) (λ g d. same refl) (none-noted w.book)

  slot_here : SlotOk after H e
  slot_here =
      let s = S.slot H e k.level k.at in
      let f = w.cell in
      let x = last_cell w H e in
      let at : after.cell x ≡ r = upd_c_same f x r in
      record {
        links = links_end f (ent H e) (w.chain H e) r (λ m i. ent_nxt) (S.once H e) s.links;
        short = s.short;
        if_open = λ z. absurd (k.closed z);
        if_closed = λ z. rw at (ref_stays redirect_grows _ _ k.inside);
        direct = λ t z c q. let y : x ≡ ent H e = rw c refl in k.straight t c (sym at ∙ ap after.cell y ∙ q);
      }

  pub redirect_structure : Structure after
  redirect_structure =
      record {
        tree_ok = S.tree_ok;
        homed = λ m g d i. homed_stays redirect_grows refl (S.homed m g d i);
        in_chain = S.in_chain;
        once = S.once;
        slot = λ g d p l. by g d (S.slot g d p l) (same_entry? g d H e);
      }
    where
      by : (g d : ℕ) → SlotOk w g d → Dec ((g ≡ H) × (d ≡ e)) → SlotOk after g d
      by g d s (yes q) = rw (q.0, q.1) slot_here
      by g d s (no q) = slot_other S H e r g d q refl (ref_stays redirect_grows) s

  -- a worker v that does not move this chain
  pub redirect_spares : (v : ℕ) → v ≢ 0 → w.mover (w.tree.into H e) ≢ v → ((c : ℕ) → w.mover c ≡ v → mv c ≡ v) → Spares v w after
  redirect_spares v z a mine =
      let f = w.cell in
      let x = last_cell w H e in
      record {
        my_node = λ m p. (p, refl, upd_c_other f x r (nxt m) (held_away S H e (λ q. z (sym p ∙ q))));
        my_level = λ g p. (p, refl, refl, refl, λ d. upd_c_other f x r (ent g d) (level_away w H e (λ q. z (sym p ∙ q)) k.level));
        my_move = λ g d c m.
            let apart : ¬ ((g ≡ H) × (d ≡ e)) = λ q. a (rw (q.0, q.1) at m) in
            (mine (w.tree.into g d) m, refl, upd_c_other f x r (last_cell w g d) (ends_apart S apart));
      }
