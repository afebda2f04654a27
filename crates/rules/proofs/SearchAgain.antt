-- Read, Follow, and a failed Put, Append or Close: question 6 holds of the word met, and what is done with it is what the theory makes of it.
-- Relies on a worker that searches, on what it does where it reads again, and on the theory's next clause of a reading.
use Prim.Native.Nat.{ℕ, ◌<◌}
use mathlib.Core.Path.{◌≡◌, refl, sym, ap, subst, ◌∙◌}
use mathlib.Core.Logic.{◌≢◌}
use mathlib.Core.Bool.{Bool, true}
use mathlib.Core.List.{[]}
use native.Mathlib.Omega.{arith}
use borrow.Author.Tests.{eq-eqb, ne_eqb}
use Rattle.words.proofs.Choice.{pick_true, pick_false, both_true}
use Rattle.settings.specs.declared.Settings.{Settings}
use Rattle.areas.specs.Memory.{Memory, level_ref, node_ref, named, pixel_at, next_at, cell_at, level_taken}
use Rattle.record.specs.declared.Kind.TheVariants.{Look, Tail}
use Rattle.record.specs.declared.Answer.TheVariants.{Found}
use Rattle.record.specs.declared.Head.{Head}
use Rattle.record.specs.Layout.{Record}
use Rattle.rules.specs.Heads.{to_level, to_node, ended}
use Rattle.rules.specs.Steps.{Step, step, going}
use Rattle.rules.specs.Searching as spec
use Rattle.rules.specs.Acts.{act_by}
use Rattle.rules.specs.Asked as asked
use Rattle.trie.proofs.Digits.{digit}
use Rattle.trie.proofs.Tree.{inside_pub}
use Rattle.trie.proofs.World.{Placed, Other}
use Rattle.trie.proofs.Evolve.{grows_refl}
use Rattle.trie.proofs.Stand as theory
use Rattle.trie.proofs.Stand.{Pos, at_entry, at_node, passed, Met, met_node_lem, met-level}
use Rattle.trie.proofs.Search.{Phase, again, peek, Local, reads, word, Next, found, onward, down, reads_next}
use Rattle.trie.proofs.Measure.{phase}
use Rattle.trie.proofs.Falls.{onward_less, down_less}
use Rattle.trie.proofs.Advance.{dooming_read}
use Rattle.trie.proofs.Levels.{levels_stay}
use Rattle.trie.proofs.Whole.{idle, Worker, is_idle, owner, stay_step}
use Rattle.trie.proofs.Turns.{does}
use Rattle.rules.proofs.Dims.{dims}
use Rattle.rules.proofs.Matches.{search_kind, entry, node, peeks, rests}
use Rattle.rules.proofs.Invariant.{WorldOf, kept, At, TurnOk, ends_found}
use Rattle.rules.proofs.Reading.{not_free, node_ref_lem, level_ref_lem, named_node, named-level, level-taken, pixel_reads, pixel_fits_lem}
use Rattle.rules.proofs.Standing.{spot, picks_ok, stands_ok, spot-reads, leads_on}
use Rattle.rules.proofs.Turned.{call_level, call_node}
use Rattle.rules.proofs.Rereading.{count_from, goes_to, count_from_lem, goes_to_is, back_ok}
use Rattle.rules.proofs.Searcher.{Searcher, standing, stays}

-- what a reading does with a reference to a node, and to a level
met_a_node : (s : Settings) (h : Head) (c g R : ℕ) (m : Memory) → spec.met s h c g (node_ref R) m ≡ spec.met_node s h c R m
unfolding spec.met
met_a_node s h c g R m = pick_true _ _ _ (node_ref_lem R) ∙ ap (λ n. spec.met_node s h c n m) (named_node R)

met_a_level : (s : Settings) (h : Head) (c g t : ℕ) (m : Memory) → spec.met s h c g (level_ref t) m ≡ going s (to_level Look g h) [] m
unfolding spec.met
met_a_level s h c g t m = pick_false _ _ _ (level_ref_lem t)

module _ {w : ℕ} {s₀ s : Settings} {m : Memory} {W : WorldOf w s₀} {ws : ℕ → Worker} {i : ℕ} {r : Record} {a : At w s₀ s m W ws i r} {p : Phase} {H : ℕ} {x : Pos} (o : Searcher a p H x) where
  pub compares_ok : word W (ws i).key H x ≢ level_ref H → asked.compares_ref s (cell_at w m (spot w r.head r.head.pixel m.levels x)) m.nodes ≡ true
  unfolding asked.compares_ref
  compares_ok y = ap (λ v. asked.compares_ref s v m.nodes) (spot-reads a (standing o)) ∙ by (leads_on a (standing o) y)
    where
      by : Met W (Other W (ws i).key) H (digit (dims w s₀.limit) (ws i).key (W.tree.depth H)) x (word W (ws i).key H x) → asked.compares_ref s (word W (ws i).key H x) m.nodes ≡ true
      by (met_node_lem R q p f) = ap (λ v. asked.compares_ref s v m.nodes) q ∙ pick_true _ _ _ (node_ref_lem R) ∙ ap (λ j. asked.pixel_fits s j m.nodes) (named_node R) ∙ pixel_fits_lem a.table a.inv.structure R p
      by (met-level t q z k f d) =
          let p = inside_pub (a.inv.structure.tree_ok.closed H _ z).to k in
          ap (λ v. asked.compares_ref s v m.nodes) q ∙ pick_false _ _ _ (level_ref_lem t) ∙ ap (level_taken s) (named-level t) ∙ level-taken a.table t (not_free p)

  -- found: the call ends
  ends : (R : ℕ) → Placed W R → W.pixel R ≡ (ws i).key → TurnOk w s₀ W ws i (step (Found R) s (ended 2 R r.head.held_node r.head) [] m)
  unfolding ended
  ends R p e =
      let c = does (ws i) idle in
      record {
        world = W;
        worker = c;
        table = a.table;
        inv = stay_step a.inv i c (record { acts = is_idle; holds_node = (a.inv.each i).holds_node; holds_level = (a.inv.each i).holds_level });
        levels = levels_stay a.levels i a.here c (grows_refl W) refl;
        matches = record { pixel_is = a.matches.pixel_is; node_is = a.matches.node_is; level_is = a.matches.level_is; doing = rests refl refl };
        rowing = ends_found p e refl refl;
        falls = λ y. absurd (y refl);
        dooming = dooming_read (ws i).key refl;
        held = kept a.table.nodes_fresh refl;
      }

  -- another node
  goes_onward : (R c : ℕ) → phase W (peek H (at_node R (theory.more (dims w s₀.limit) (passed x)))) < phase W (again H x) → c ≡ theory.more (dims w s₀.limit) (passed x) → Local W (owner i) (ws i).key (ws i).since (peek H (at_node R (theory.more (dims w s₀.limit) (passed x)))) → TurnOk w s₀ W ws i (going s (to_node Tail R c r.head) [] m)
  unfolding to_node
  goes_onward R c n e l = stays o {q = peek H (at_node R (theory.more (dims w s₀.limit) (passed x)))} (omega (arith, o.again_last)) refl refl (call_node Tail R c r.head) (peeks o.level_is (node refl e)) l

  -- a level
  goes_down : (g c : ℕ) → W.tree.depth H < W.tree.depth c → g ≡ c → Local W (owner i) (ws i).key (ws i).since (peek c at_entry) → TurnOk w s₀ W ws i (going s (to_level Look g r.head) [] m)
  unfolding to_level
  goes_down g c n e l = stays o {q = peek c at_entry} (omega (arith, down_less a.inv.structure x o.search.path.pub_at n, o.again_last)) refl refl (call_level Look g r.head) (peeks e entry) l

  -- what the theory makes of the word
  pub met_ok : word W (ws i).key H x ≢ level_ref H → TurnOk w s₀ W ws i (spec.met s r.head (count_from s r.head x) (goes_to w r.head m.levels x (named (cell_at w m (spot w r.head r.head.pixel m.levels x)))) (cell_at w m (spot w r.head r.head.pixel m.levels x)) m)
  unfolding spec.met_node
  met_ok y = by (reads_next a.inv.structure a.inv.partition (reads o.search y))
    where
      h : Head
      h = r.head

      does_with : ℕ → Step
      does_with v = spec.met s h (count_from s h x) (goes_to w h m.levels x (named v)) v m

      pixel_of_lem : (R : ℕ) → Placed W R → pixel_at m.nodes R ≡ W.pixel R
      pixel_of_lem R p = pixel_reads a.table R (not_free p)

      by : Next W (owner i) (ws i).key (ws i).since H x → TurnOk w s₀ W ws i (does_with (cell_at w m (spot w h h.pixel m.levels x)))
      by (found R q p e) =
          subst (TurnOk w s₀ W ws i)
          (sym (ap does_with (spot-reads a (standing o) ∙ q) ∙ met_a_node s h _ _ R m ∙ pick_true _ _ _ (eq-eqb _ _ (pixel_of_lem R p ∙ e ∙ sym a.matches.pixel_is))))
          (ends R p e)
      by (onward R q p e g) =
          subst (TurnOk w s₀ W ws i)
          (sym (ap does_with (spot-reads a (standing o) ∙ q) ∙ met_a_node s h _ _ R m ∙ pick_false _ _ _ (ne_eqb _ _ (λ y. e (sym (pixel_of_lem R p) ∙ y ∙ a.matches.pixel_is)))))
          (goes_onward R _ (onward_less a.inv.structure (theory.more (dims w s₀.limit) (passed x)) o.search.stand q p) (count_from_lem a (standing o)) g)
      by (down t c q p g e n j) =
          subst (TurnOk w s₀ W ws i)
          (sym (ap does_with (spot-reads a (standing o) ∙ q) ∙ met_a_level s h _ _ t m))
          (goes_down _ c n (ap (goes_to w h m.levels x) (named-level t) ∙ goes_to_is a (standing o) p g e) j)

module _ {w : ℕ} {s₀ s : Settings} {m : Memory} {W : WorldOf w s₀} {ws : ℕ → Worker} {i : ℕ} {r : Record} {a : At w s₀ s m W ws i r} {p : Phase} {H : ℕ} where
  -- what Read and Follow do with the word met, and their question 6 of it
  pub read_ok : (o : Searcher a p H at_entry) → word W (ws i).key H at_entry ≢ level_ref H → TurnOk w s₀ W ws i (spec.read_word s r.head (cell_at w m (spec.entry_of w r.head m.levels)) m)
  unfolding spec.read_word spec.entry_of
  read_ok o y = met_ok o y

  pub follow_ok : {R C : ℕ} (o : Searcher a p H (at_node R C)) → word W (ws i).key H (at_node R C) ≢ level_ref H → TurnOk w s₀ W ws i (spec.follow_word w s r.head (next_at m.nodes r.head.node) m)
  unfolding spec.follow_word cell_at
  follow_ok o y = met_ok o y

  pub follows_ok : {R C : ℕ} (o : Searcher a p H (at_node R C)) → word W (ws i).key H (at_node R C) ≢ level_ref H → asked.follows_ref w s r.head (next_at m.nodes r.head.node) m ≡ true
  unfolding asked.follows_ref cell_at
  follows_ok o y = both_true (compares_ok o y) (ap (λ v. asked.goes_back w s.levels_taken r.head.level v m.levels) (spot-reads a (standing o)) ∙ back_ok a (standing o) y)

module _ {w : ℕ} {s₀ s : Settings} {m : Memory} {W : WorldOf w s₀} {ws : ℕ → Worker} {i : ℕ} {r : Record} {a : At w s₀ s m W ws i r} {H : ℕ} where
  pub again_asks : (x : Pos) → Searcher a (again H x) H x → word W (ws i).key H x ≢ level_ref H → asked.reads_by (search_kind (again H x)) w s r.head r.moves m ≡ true
  unfolding asked.reads_by asked.reads asked.follows spec.entry_of
  again_asks at_entry o y = both_true (picks_ok a (standing o)) (compares_ok o y)
  again_asks (at_node R C) o y = both_true (stands_ok a (standing o)) (follows_ok o y)

  pub again_turn : (looks : Bool) (x : Pos) (o : Searcher a (again H x) H x) → word W (ws i).key H x ≢ level_ref H → TurnOk w s₀ W ws i (act_by (search_kind (again H x)) w looks s r.head r.moves m)
  unfolding act_by spec.read spec.follow
  again_turn looks at_entry o y = read_ok o y
  again_turn looks (at_node R C) o y = follow_ok o y
