-- Every row of the table of bench cases passes: a computed test of each part, and from them the rule at each row.
-- Relies on the table, and on words for a test at each element.
use Prim.Native.Nat.{ℕ, zero, suc, ◌*◌}
use mathlib.Core.Path.{◌≡◌, refl, sym, ap, subst, ◌∙◌}
use mathlib.Core.Bool.{Bool, true}
use mathlib.Core.List.{List, [], ◌∷◌, ◌++◌, Memᴰ}
use lib.ListN.{set, replicate}
use lib.Seq.{sets}
use borrow.Author.Tests.{eq-eqb}
use Rattle.words.specs.Choice.{every}
use Rattle.words.specs.Blocks.{fill}
use Rattle.settings.specs.Sizes.{worker_words}
use Rattle.areas.specs.Memory.{Areas, areas, fill_level, none}
use Rattle.record.specs.declared.Answer.TheVariants.{Nothing}
use Rattle.rules.specs.Opening.{opened_settings, opened_areas}
use Rattle.rules.specs.Operations.{Result, result_of, reply, opening}
use Rattle.rules.specs.Lists.{state, after}
use Rattle.rules.proofs.Carried.{opening_done}
use Rattle.words.proofs.Choice.{both_left, both_right, both_true, every_at}
use Rattle.bench.specs.Table.{Row, passes, first_rows, move_rows, full_rows, worker_row, exchange_rows, narrow_rows, wide_rows, other_widths, viewer_rows, table, given, lent, lines_pass}
use Rattle.bench.specs.Everything.{everything}

-- rows behind rows
every_append : (f : Row → Bool) (l m : List Row) → every f l ≡ true → every f m ≡ true → every f (l ++ m) ≡ true
unfolding every
every_append f [] m p q = q
every_append f (r ∷ l) m p q = both_true (both_left _ _ p) (every_append f l m (both_right (f r) _ p) q)

-- part by part
first_pass : every passes first_rows ≡ true
unfolding everything
first_pass = refl

move_pass : every passes move_rows ≡ true
unfolding everything
move_pass = refl

full_pass : every passes full_rows ≡ true
unfolding everything
full_pass = refl

-- the zeros that an opening writes to workers' words that are all one number, without going through them word by word
sets_on : (x : ℕ) (l : List ℕ) (i : ℕ) (vs : List ℕ) → sets (x ∷ l) (suc i) vs ≡ x ∷ sets l i vs
sets_on x l i [] = refl
sets_on x l i (v ∷ vs) = sets_on x (set l i v) (suc i) vs

sets-all : (n a v : ℕ) → sets (replicate n a) 0 (replicate n v) ≡ replicate n v
sets-all zero a v = refl
sets-all (suc n) a v = sets_on v (replicate n a) 0 (replicate n v) ∙ ap (λ (l : List ℕ). v ∷ l) (sets-all n a v)

abbrev zeroed : Row → Areas
zeroed r = areas (lent r).nodes (fill_level r.width (lent r).levels 0 none 0) (replicate (worker_words * r.workers) 0)

zeroed_is : (r : Row) → opened_areas r.width (given r) (lent r) ≡ zeroed r
unfolding opened_areas lent fill
zeroed_is r = ap (λ (l : List ℕ). areas (lent r).nodes (fill_level r.width (lent r).levels 0 none 0) l) (sets-all (worker_words * r.workers) 7 0)

-- a row whose opening is carried out, from there on
by_zeros : (r : Row) → r.number ≡ 0 → (opening r.width (given r) (lent r)).reply.number ≡ 0 → lines_pass r.lines (state (opened_settings (given r)) (zeroed r)) ≡ true → passes r ≡ true
unfolding passes
by_zeros r n z q =
    both_true (eq-eqb _ _ (z ∙ sym n))
    (subst (λ (o : Result). lines_pass r.lines (after o) ≡ true)
    (sym (opening_done r.width (given r) (lent r) z ∙ ap (result_of (reply 0 Nothing 0 (opened_settings (given r)))) (zeroed_is r))) q)

worker_opens : (opening 3 (given worker_row) (lent worker_row)).reply.number ≡ 0
unfolding everything
worker_opens = refl

worker_lines : lines_pass worker_row.lines (state (opened_settings (given worker_row)) (zeroed worker_row)) ≡ true
unfolding everything
worker_lines = refl

worker_pass : every passes (worker_row ∷ []) ≡ true
unfolding every
worker_pass = both_true (by_zeros worker_row refl worker_opens worker_lines) refl

exchange_pass : every passes exchange_rows ≡ true
unfolding everything
exchange_pass = refl

narrow_pass : every passes narrow_rows ≡ true
unfolding everything
narrow_pass = refl

wide_pass : every passes wide_rows ≡ true
unfolding everything
wide_pass = refl

viewer_pass : every passes viewer_rows ≡ true
unfolding everything
viewer_pass = refl

other_pass : every passes other_widths ≡ true
unfolding everything
other_pass = refl

pub all_pass : every passes table ≡ true
unfolding table
all_pass =
    every_append passes first_rows _ first_pass
    (every_append passes move_rows _ move_pass
    (every_append passes full_rows _ full_pass
    (every_append passes (worker_row ∷ []) _ worker_pass
    (every_append passes exchange_rows _ exchange_pass
    (every_append passes narrow_rows _ narrow_pass
    (every_append passes wide_rows _ wide_pass
    (every_append passes other_widths _ other_pass viewer_pass)))))))

pub each_passes : (r : Row) → Memᴰ r table → passes r ≡ true
each_passes r i = every_at passes all_pass i
