-- Demand 3: for every carried out opening and every sequence of starts and turns there is one row of all ended calls.
-- Relies on what holds along a sequence, on the count of nodes taken, and on that the reached nodes are the placed ones.
use Prim.Native.Nat.{ℕ}
use mathlib.Core.Path.{◌≡◌, refl, sym, ◌∙◌}
use mathlib.Core.Bool.{true}
use mathlib.Core.List.{List, []}
use native.Mathlib.Omega.{arith}
use Rattle.words.specs.Choice.{every}
use Rattle.words.proofs.Choice.{both_left, both_right}
use Rattle.settings.specs.Sizes.{question1, fresh}
use Rattle.settings.specs.declared.Settings.{Settings}
use Rattle.settings.proofs.Laws.{ranges}
use Rattle.areas.specs.Memory.{Areas}
use Rattle.rules.specs.Opening.{opened_settings}
use Rattle.rules.specs.Operations.{AtWidth, opening, opening_questions, question2_of}
use Rattle.rules.specs.Lists.{State}
use Rattle.rules.specs.Calls.{Event, Call, calls}
use Rattle.rules.specs.Refusals.{AllYes}
use Rattle.rules.specs.Demands.{ReachedIsBook, Row, Demand3, Statement}
use Rattle.rules.proofs.Dims.{Width, width_of}
use Rattle.rules.proofs.Carried.{opening_done}
use Rattle.rules.proofs.Refused.{refuses-opening}
use Rattle.rules.proofs.Reading.{pixel_reads, pixel_le}
use Rattle.rules.proofs.Reach.{reached_placed, placed_reached}
use Rattle.rules.proofs.RowBook.{in_order}
use Rattle.rules.proofs.RowEnds.{book_of, in_pairs, of_pairs}
use Rattle.rules.proofs.Along.{Along}
use Rattle.rules.proofs.Opened.{along_opened}
use Rattle.rules.proofs.Sequence.{AtEnd, run_along, run_ends, event_ok, left_over}
use Rattle.rules.proofs.Counting.{sequence_counts}

-- the reached nodes with their pixels are the pairs of the book
reached_book : {w : ℕ} {s₀ : Settings} {x : State} {cs : List Call} (e : AtEnd w s₀ x cs) → ReachedIsBook w x (book_of e.along.world)
reached_book {w} {s₀} {x} e =
    let a = e.along in
    let T = a.fine.table in
    let S = a.fine.inv.structure in
    let Q = a.fine.inv.partition in
    record {
      in_book = λ i r.
          let p = reached_placed T S a.top i r in
          let q = pixel_reads T i (λ z. omega (arith, p)) in
          (rw q (in_pairs a.world.pixel a.world.book (Q.noted i p)), rw q (pixel_le T S i p));
      in_memory = λ p i h.
          let (n, q) = of_pairs a.world.pixel a.world.book h in
          let k = Q.noted-placed i n in
          (placed_reached T S a.top i k, pixel_reads T i (λ z. omega (arith, k)) ∙ q);
    }

row_of : {w : ℕ} {s₀ : Settings} {x : State} (a : Along w s₀ x 0 [] []) (es : List Event) → Row w x es
unfolding calls
row_of {x = x} a es =
    let e = run_along es x 0 [] [] a in
    record {
      row = e.along.rows.row;
      book = book_of e.along.world;
      all-calls = e.along.rows.perm;
      none_lost = run_ends es x a;
      in_order = in_order e.along.rows.row e.along.rows.rowed.rows.ordered;
      reads = e.along.rows.rowed.rows.run;
      reached = reached_book e;
    }

-- from a state that holds what an opening leaves
pub demand3_of : {w : ℕ} {s₀ : Settings} {x : State} → Along w s₀ x 0 [] [] → x.settings.nodes_taken ≡ 0 → x.settings.workers ≡ s₀.workers → (es : List Event) → Demand3 w x es
demand3_of {w} {s₀} {x} a z y es =
    record {
      row = row_of a es;
      each = λ before e rest q. event_ok (run_along before x 0 [] [] a).along e;
      taken = λ before rest q. let c = sequence_counts w before x in omega arith;
      level-left = λ before rest q i h. left_over (run_along before x 0 [] [] a).along i (rw y at h);
      width-stays = λ before rest q. (run_along before x 0 [] [] a).along.fine.table.same.width_is ∙ sym a.fine.table.same.width_is;
    }

pub opening_yes : (w : ℕ) (s : Settings) (a : Areas) → AllYes (opening_questions w s a) → (question1 s ≡ true) × (question2_of w s a ≡ true)
unfolding opening_questions every
opening_yes w s a y = (both_left _ _ y, both_left _ _ (both_right _ _ y))

-- a carried out opening has one of the widths
pub opened-width : (w : ℕ) (s : Settings) (a : Areas) → (opening w s a).reply.number ≡ 0 → Width s.width
opened-width w s a z = width_of (ranges s (opening_yes w s a ((refuses-opening w s a).numbered.carried.0 z)).0).width

-- Demand 3 over every width whose digits fit the pixel numbers
pub demand3 : (w : ℕ) → Width w → (s : Settings) → Statement w s
unfolding opened_settings fresh
demand3 w width s a z es =
    let y = (refuses-opening w s a).numbered.carried.0 z in
    rw (opening_done w s a z)
    (demand3_of (along_opened width s a (opening_yes w s a y).0 (opening_yes w s a y).1) refl refl es)

-- document 02's tables, each at the width that its settings give
pub theorem : AtWidth Statement
theorem s a z = demand3 s.width (opened-width s.width s a z) s a z
