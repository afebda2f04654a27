-- What demand 3 means to a user: statements about one row with its book and the state after its sequence. Each follows from the row.
-- Relies on the statement of demand 3.
use Rattle.std.specs.Prelude.{ℕ, ◌<◌, ◌≡◌, ◌⊎◌}
use mathlib.Core.List.{List, ◌∷◌, ◌++◌, Memᴰ}
use Rattle.areas.specs.Memory.{node_ref, pixel_at}
use Rattle.record.specs.declared.Answer.TheVariants.{New, Found, Full, Absent}
use Rattle.rules.specs.Operations.{memory_of}
use Rattle.rules.specs.Lists.{State}
use Rattle.rules.specs.Reached.{Reached}
use Rattle.rules.specs.Calls.{Event, history, state_after, Call, calls, Holds}
use Rattle.rules.specs.Demands.{Row}

-- the call names node n for its pixel: "new", which places it, or "found", a viewer's too, which finds it placed
abbrev pub Names : Call → ℕ → Type 0
Names c n = (c.answer ≡ New n) ⊎ (c.answer ≡ Found n)

-- no call of the list names a node for pixel p
abbrev pub NoneNames : List Call → ℕ → Type 0
NoneNames cs p = (d : Call) (n : ℕ) → Memᴰ d cs → d.pixel ≡ p → ¬ (Names d n)

-- every call of the list for pixel p says "found" with n
abbrev pub AllFind : List Call → ℕ → ℕ → Type 0
AllFind cs p n = (d : Call) → Memᴰ d cs → d.pixel ≡ p → d.answer ≡ Found n

-- a call of the list that says "new" with n for pixel p
abbrev pub NewIn : List Call → ℕ → ℕ → Type 0
NewIn cs p n = (d : Call) × Memᴰ d cs × (d.pixel ≡ p) × (d.answer ≡ New n)

-- in this state node i is reached from the root and holds pixel p
pub record Shown (w : ℕ) (x : State) (p i : ℕ) : Type 0 where
  pub reached : Reached w (memory_of x.areas) (node_ref i)
  pub pixel_is : pixel_at x.areas.nodes i ≡ p

-- The sequence may stop anywhere, amid the Move of a chain too.
pub record Consequences {w : ℕ} {x : State} {es : List Event} (R : Row w x es) : Type 0 where
  -- different pixels have different nodes
  pub one_pixel : (p q n : ℕ) → Holds R.book p n → Holds R.book q n → p ≡ q
  -- a pixel has one node
  pub one_node : (p m n : ℕ) → Holds R.book p m → Holds R.book p n → m ≡ n
  -- a placed pixel has a node that can be reached
  pub shown : (p n : ℕ) → Holds R.book p n → Shown w (state_after w es x) p n
  -- and no other: two reached nodes with the same pixel word are the same node
  pub shown_once : (p m n : ℕ) → Shown w (state_after w es x) p m → Shown w (state_after w es x) p n → m ≡ n
  -- only placed pixels can be reached
  pub shown-placed : (p n : ℕ) → Shown w (state_after w es x) p n → Holds R.book p n
  -- a call that has ended stands in the row
  pub in_row : (c : Call) → Memᴰ c (calls (history w es x)) → Memᴰ c R.row
  -- the node that a call said is its pixel's node for good: in the book, and reached with the pixel at the end
  pub said : (c : Call) (n : ℕ) → Memᴰ c R.row → Names c n → Holds R.book c.pixel n × Shown w (state_after w es x) c.pixel n
  -- "new" is said once for a pixel: no call before it named a node for the pixel, and every call for the pixel after it says "found" with its node
  pub new_first : (pre post : List Call) (c : Call) (n : ℕ) → R.row ≡ pre ++ c ∷ post → c.answer ≡ New n → NoneNames pre c.pixel × AllFind post c.pixel n
  -- "found" is said after a "new" with the same node
  pub found_after : (pre post : List Call) (c : Call) (n : ℕ) → R.row ≡ pre ++ c ∷ post → c.answer ≡ Found n → NewIn pre c.pixel n
  -- "full" is said before its pixel is placed
  pub full_before : (pre post : List Call) (c : Call) → R.row ≡ pre ++ c ∷ post → c.answer ≡ Full → NoneNames pre c.pixel
  -- so is a viewer's "absent": "Such a call stands in the row before its pixel is placed"
  -- excludes: a viewer whose Read passes over its pixel's node; one that goes on at the level met and not at the child of H
  pub absent_before : (pre post : List Call) (c : Call) → R.row ≡ pre ++ c ∷ post → c.answer ≡ Absent → NoneNames pre c.pixel
  -- and is not said for a pixel whose "new" or "found" had ended before the viewer's call started
  -- excludes: a viewer that stops at the first node of a chain; one that ends where an entry refers to another level
  pub absent_late : (c d : Call) (n : ℕ) → Memᴰ c R.row → Memᴰ d R.row → c.answer ≡ Absent → Names d n → d.pixel ≡ c.pixel → ¬ (d.end < c.start)
