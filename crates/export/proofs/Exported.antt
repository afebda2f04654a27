-- The laws of the C interface: what an operation shows, and a list of turns; a list with its first entry apart, or with none; a viewer's turn that is refused.
-- Relies on the definitions of what the interface gives, on lists for what a list gives, on rules for that a viewer's turn is never "full".
use Prim.Native.Nat.{ℕ, ◌-◌, ◌≤◌, ◌<◌}
use mathlib.Core.Path.{◌≡◌, refl, sym, ap, ap₂, ◌∙◌}
use mathlib.Core.Bool.{Bool, true}
use mathlib.Core.List.{List, [], ◌∷◌}
use native.Mathlib.Omega.{arith}
use lib.Dec.{ltb}
use lib.ListN.{length, get_or, take, drop}
use lib.Seq.{take_all}
use Rattle.std.specs.Prelude.{Ok, Err}
use Rattle.std.specs.Prelude as Res
use Rattle.words.specs.Choice.{every, first_no}
use Rattle.settings.specs.Cut.{counted}
use Rattle.settings.specs.Sizes.{views}
use Rattle.settings.specs.Refusals.{refusal_no, outcome_no}
use Rattle.settings.specs.declared.Refusal.{Refusal}
use Rattle.settings.specs.declared.Settings.{Settings}
use Rattle.settings.proofs.Refusals.{refusal_positive}
use Rattle.areas.specs.Memory.{Areas, areas}
use Rattle.record.specs.declared.Answer.TheVariants.{Nothing}
use Rattle.record.specs.declared.Reply.{Reply}
use Rattle.rules.specs.Operations.{Result, result_of, reply, refused, turn}
use Rattle.rules.specs.Lists.{state, list_questions}
use Rattle.rules.specs.Exchanges.{Report, report, list_report}
use Rattle.rules.proofs.OneTurn.{turn-refused}
use Rattle.rules.proofs.Viewers.{never_nine}
use Rattle.turns.specs.Cut.{turn_as, Did, did, did_of, did_as, done_of}
use Rattle.turns.proofs.Ways.{here-turn}
use Rattle.lists.specs.declared.Ran.{Ran}
use Rattle.lists.specs.Cut.{Stand, ended, run, tally, counted_by, ran_of, ran_list, refused_turn, listed}
use Rattle.lists.proofs.Ways.{list_done, turn_four}
use Rattle.lists.proofs.One.{one_refused}
use Rattle.export.specs.declared.LeafdrumReply.{LeafdrumReply}
use Rattle.export.specs.Shown.{numbers_of, shown, exported, exported_list}

pub export_steps : {x : LeafdrumReply} {r : Reply} {a : Areas} {y : Result} → x ≡ numbers_of r 0 0 → result_of r a ≡ y → shown x a ≡ exported y
unfolding exported
export_steps a e = rw (← e, a) refl

pub list_steps : {x : LeafdrumReply} {r : Reply} {d f : ℕ} {a : Areas} {y : Report} → x ≡ numbers_of r d f → report (result_of r a) d f ≡ y → shown x a ≡ exported_list y
unfolding exported_list
list_steps a e = rw (← e, a) refl

-- a list with its first entry apart
module _ (l : List ℕ) {i : ℕ} (e : i ≡ get_or l 0 0) (z : 1 ≤ length l) where
  abbrev entries : List ℕ
  entries = i ∷ take (length l - 1) (drop 1 l)

  apart : entries ≡ l
  apart = by l e z
    where
      by : (m : List ℕ) → i ≡ get_or m 0 0 → 1 ≤ length m → i ∷ take (length m - 1) (drop 1 m) ≡ m
      by [] p q = absurd (omega arith)
      by (j ∷ m) p q = ap₂ (λ (v : ℕ) (o : List ℕ). v ∷ o) p (take_all (length (j ∷ m) - 1) m (omega arith))

  pub apart_below : (m : ℕ) → every (λ (j : ℕ). ltb j m) l ≡ true → every (λ (j : ℕ). ltb j m) entries ≡ true
  apart_below m y = ap (every (λ (j : ℕ). ltb j m)) apart ∙ y

  pub apart_done : (s : Settings) (limit : ℕ) (n g k : List ℕ) (t : Stand) {x : Areas} {c : Settings} {q : ℕ} → q ≡ first_no (list_questions s.width s l (areas n g k)) → q ≡ 0 → ran_of s t x ≡ ran_list s.width entries (run 0 (state s (areas n g k)) limit 0 0) → c ≡ counted_by s t → listed limit t c x ≡ list_report s.width s l limit (areas n g k)
  apart_done s limit n g k t f y p o =
      rw o (list_done s.width s l n g k f y limit t (p ∙ ap (λ (m : List ℕ). ran_list s.width m (run 0 (state s (areas n g k)) limit 0 0)) apart))

-- and one without an entry
pub none_done : (s : Settings) (l : List ℕ) (limit : ℕ) (n g k : List ℕ) {x : LeafdrumReply} {r : Reply} → x ≡ numbers_of r 0 0 → r ≡ reply 0 Nothing 0 s → 0 ≡ first_no (list_questions s.width s l (areas n g k)) → length l < 1 → shown x (areas n g k) ≡ exported_list (list_report s.width s l limit (areas n g k))
unfolding ran_list counted
none_done s [] limit n g k b a e h =
    let o : 0 ≡ limit - limit = omega arith in
    list_steps b (ap (λ (r : Reply). report (result_of r (areas n g k)) 0 0) (a ∙ ap (λ (m : ℕ). reply 0 Nothing m s) o)
    ∙ list_done s.width s [] n g k e refl limit (tally 0 s.nodes_taken s.levels_taken limit 0 0) refl)
none_done s (i ∷ l) limit n g k b a e h = absurd (omega arith)

-- a turn that a 6 has ended
pub six_ended :
    (s : Settings) (i : ℕ) (n g k : List ℕ) (t : Ran) {x : LeafdrumReply} {r : Refusal} {a : Areas}
    → t.outcome ≡ Err r → x ≡ numbers_of (reply (refusal_no r) Nothing 0 s) 0 0
    → ran_of s (ended t) a ≡ ran_list s.width (i ∷ []) (run 0 (state s (areas n g k)) 1 0 0) → 0 ≡ refused_turn s.width s i (areas n g k)
    → shown x a ≡ exported (turn s.width s i (areas n g k))
six_ended s i n g k t {r = r} e b p o =
    let m : outcome_no t.outcome ≡ refusal_no r = ap outcome_no e in
    export_steps b (one_refused s i n g k (sym o) (ended t) p refl (ap (λ (c : ℕ). reply c Nothing 0 s) (sym m)) (λ z. refusal_positive r (sym m ∙ z)))

-- a turn that no 6 has ended
pub not_six : {A : Type 0} {o : Res.Result A Refusal} {x : A} → o ≡ Ok x → outcome_no o ≡ 6 → ⊥
not_six e z = let n : ◌≡◌ {A = ℕ} 0 6 = sym (ap outcome_no e) ∙ z in omega arith

-- a viewer's turn that is refused, as it is by 6 alone
pub view_refused :
    (s : Settings) (i : ℕ) (n g k : List ℕ) → refused_turn s.width s i (areas n g k) ≡ 0
    → {b : Bool} → b ≡ views s i → b ≡ true
    → (r : Refusal) {u : Reply} {x : Areas} → did (done_of s (Err r)) x ≡ did_as s.width true s i (areas n g k) → u ≡ reply (refusal_no r) Nothing 0 s
    → result_of u x ≡ turn s.width s i (areas n g k)
unfolding did_of
view_refused s i n g k o v y r {u} {x} e a =
    let its : Result = turn s.width s i (areas n g k) in
    let looks : views s i ≡ true = sym v ∙ y in
    let here : turn_as s.width true s i (areas n g k) ≡ its =
    ap (λ (l : Bool). turn_as s.width l s i (areas n g k)) (sym looks) ∙ here-turn s.width s i n g k refl (turn_four s.width s i n g k o)
    in
    let m : refusal_no r ≡ its.reply.number = ap (λ (d : Did). d.done.number) e ∙ ap (λ (t : Result). t.reply.number) here in
    let q : its ≡ refused its.reply.number s (areas n g k) =
    turn-refused s.width s i (areas n g k) (λ z. refusal_positive r (m ∙ z)) (never_nine s.width s i (areas n g k) looks)
    in
    let same : x ≡ areas n g k = ap (λ (d : Did). d.areas) e ∙ ap (λ (t : Result). t.areas) (here ∙ q) in
    ap₂ result_of a same ∙ ap (λ (c : ℕ). refused c s (areas n g k)) m ∙ sym q
