-- The search as the code makes it: things, marks, the queue of what was discovered, and rounds. A reader need not believe it: Exact ties it to what is reached.
-- Relies on areas for the words, on settings for sizes, on Marked for how many things there are.
use Rattle.std.specs.Prelude.{ℕ, zero, suc, ◌+◌, ◌-◌, ◌≤◌, ◌≡◌, ⊤, Bool, true, false, not, Result, Ok, Err, List, [], ◌∷◌, ◌++◌, eqb, ltb, nat_eq, length, get_or, set, replicate, count_by}
use Rattle.words.specs.Choice.{pick, both}
use Rattle.words.specs.Digits.{base}
use Rattle.settings.specs.declared.Settings.{Settings}
use Rattle.settings.specs.declared.Refusal.{Refusal}
use Rattle.settings.specs.declared.Refusal.TheVariants.{Memory as Dangles}
use Rattle.settings.specs.Sizes.{max_nodes}
use Rattle.areas.specs.Memory.{Memory, level_ref, node_ref, is_node, named, none, next_at, previous_at, entry_at, level_taken, ref_taken}
use Rattle.reach.specs.Marked.{things}

-- Things are nodes and levels in one numbering: node i is thing i, level g is the thing after all nodes and g levels.
unfoldable pub thing_of : ℕ → ℕ
thing_of r = pick (is_node r) (named r) (max_nodes + named r)

-- the reference that names a thing
unfoldable pub ref_of : ℕ → ℕ
ref_of t = pick (ltb t max_nodes) (node_ref t) (level_ref (t - max_nodes))

-- a search: a mark for each thing that was discovered, these things in the order of their discovery, and whether a reference named nothing taken
pub record Search : Type 0 where
  pub marks : List ℕ
  pub queue : List ℕ
  pub dangling : Bool

-- a search by its parts
abbrev pub searched : List ℕ → List ℕ → Bool → Search
searched marks queue d = record { marks = marks; queue = queue; dangling = d }

-- how many marks are set
abbrev pub ones : List ℕ → ℕ
ones marks = count_by (λ x. not (nat_eq x 0)) marks

-- there is a mark for each thing, and one is set for each thing in the queue, so that there is room for every thing that is not marked
pub record Room (marks queue : List ℕ) : Type 0 where
  pub all : length marks ≡ things
  pub counted : length queue ≤ ones marks

-- what the code answers by a test
abbrev pub Taken : Bool → Result ⊤ Refusal → Type 0
Taken taken (Ok x) = taken ≡ true
Taken taken (Err r) = (r ≡ Dangles) × (taken ≡ false)

-- what the code answers of a search, with the marks and the queue that it leaves
abbrev pub Came : Result ⊤ Refusal → List ℕ → List ℕ → Search → Type 0
Came (Ok x) marks queue y = y ≡ searched marks queue false
Came (Err r) marks queue y = (r ≡ Dangles) × (y ≡ searched marks queue true)

-- a thing is discovered
unfoldable pub discovered : Search → ℕ → Search
discovered x t = searched (set x.marks t 1) (x.queue ++ t ∷ []) x.dangling

-- a thing is discovered unless it was
unfoldable pub met_thing : Search → ℕ → Search
met_thing x t = pick (eqb (get_or x.marks t 0) 0) (discovered x t) x

-- a reference names nothing taken
unfoldable pub dangles : Search → Search
dangles x = searched x.marks x.queue true

-- a reference is met, unless one named nothing taken before
unfoldable pub met : Settings → Search → ℕ → Search
met s x r = pick x.dangling x (pick (ref_taken s r) (met_thing x (thing_of r)) (dangles x))

-- the first n entries of level g are met
unfoldable pub met_entries : ℕ → Settings → List ℕ → ℕ → Search → ℕ → Search
met_entries w s levels g x zero = x
met_entries w s levels g x (suc n) = met s (met_entries w s levels g x n) (entry_at w levels g n)

-- a level's number is met, likewise
unfoldable pub met_level : Settings → Search → ℕ → Search
met_level s x g = pick x.dangling x (pick (level_taken s g) (met_thing x (max_nodes + g)) (dangles x))

-- the previous word of a level is met unless it is "none"
unfoldable pub met_previous : Settings → Search → ℕ → Search
met_previous s x p = pick (eqb p none) x (met_level s x p)

-- what level g refers to is met
unfoldable pub level_expanded : ℕ → Settings → List ℕ → Search → ℕ → Search
level_expanded w s levels x g = met_previous s (met_entries w s levels g x (base w)) (previous_at w levels g)

-- what thing t refers to is met
unfoldable pub expanded : ℕ → Settings → Memory → Search → ℕ → Search
expanded w s m x t = pick (ltb t max_nodes) (met s x (next_at m.nodes t)) (level_expanded w s m.levels x (t - max_nodes))

-- thing k of the queue is there and is to be expanded
unfoldable pub goes_on : Search → ℕ → Bool
goes_on x k = both (ltb k (length x.queue)) (not x.dangling)

-- the next thing of the queue is expanded, if there is one
unfoldable pub round : ℕ → Settings → Memory → Search → ℕ → Search
round w s m x k = pick (goes_on x k) (expanded w s m x (get_or x.queue k 0)) x

-- a search that discovered nothing yet, with marks for n things
unfoldable pub unsearched : ℕ → Search
unsearched n = searched (replicate n 0) [] false

-- the search after k rounds, from the root on
unfoldable pub rounds : ℕ → Settings → Memory → ℕ → ℕ → Search
rounds w s m n zero = met s (unsearched n) (level_ref 0)
rounds w s m n (suc k) = round w s m (rounds w s m n k) k
