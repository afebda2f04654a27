-- The number of the marked nodes, as the code finds it. A reader need not believe it: Marking ties it to what is reached.
-- Relies on nothing.
use Rattle.std.specs.Prelude.{ℕ, List, not, nat_eq, count_by, take}

-- the number of marks among the first k
unfoldable pub marked_among : List ℕ → ℕ → ℕ
marked_among marks k = count_by (λ x. not (nat_eq x 0)) (take k marks)
