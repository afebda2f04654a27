-- A function changed at one argument, and its two laws. Nothing else looks inside.
-- Relies on the language's library alone.
use mathlib.Core.Path.{◌≡◌, refl}
use mathlib.Core.Logic.Dec
use mathlib.Core.Logic.{◌≢◌}
use Prim.Native.Nat.{ℕ}
use native.Mathlib.Decide.{ℕ_discrete}

pub pick : {A P : Type 0} → Dec P → A → A → A
pick (yes p) a b = a
pick (no p) a b = b

pub pick_yes : {A P : Type 0} (d : Dec P) (a b : A) → P → pick d a b ≡ a
unfolding pick
pick_yes (yes p) a b h = refl
pick_yes (no p) a b h = absurd (p h)

pub pick_no : {A P : Type 0} (d : Dec P) (a b : A) → ¬ P → pick d a b ≡ b
unfolding pick
pick_no (yes p) a b h = absurd (h p)
pick_no (no p) a b h = refl

-- f, but a at x
pub upd : {A : Type 0} → (ℕ → A) → ℕ → A → ℕ → A
upd f x a y = pick (ℕ_discrete y x) a (f y)

pub upd_same : {A : Type 0} (f : ℕ → A) (x : ℕ) (a : A) → upd f x a x ≡ a
unfolding upd
upd_same f x a = pick_yes (ℕ_discrete x x) a (f x) refl

pub upd_other : {A : Type 0} (f : ℕ → A) (x : ℕ) (a : A) (y : ℕ) → y ≢ x → upd f x a y ≡ f y
unfolding upd
upd_other f x a y h = pick_no (ℕ_discrete y x) a (f y) h

-- a word that another word or a level may refer to: an entry of a level, or a node's next
pub data Cell : Type 0 where
  ent : ℕ → ℕ → Cell
  nxt : ℕ → Cell
  deriving Discrete as Cell-discrete

pub upd_c : {A : Type 0} → (Cell → A) → Cell → A → Cell → A
upd_c f x a y = pick (Cell-discrete ℕ_discrete y x) a (f y)

pub upd_c_same : {A : Type 0} (f : Cell → A) (x : Cell) (a : A) → upd_c f x a x ≡ a
unfolding upd_c
upd_c_same f x a = pick_yes (Cell-discrete ℕ_discrete x x) a (f x) refl

pub upd_c_other : {A : Type 0} (f : Cell → A) (x : Cell) (a : A) (y : Cell) → y ≢ x → upd_c f x a y ≡ f y
unfolding upd_c
upd_c_other f x a y h = pick_no (Cell-discrete ℕ_discrete y x) a (f y) h

-- f, but a at g and e
pub upd₂ : {A : Type 0} → (ℕ → ℕ → A) → ℕ → ℕ → A → ℕ → ℕ → A
upd₂ f g e a h d = pick (Dec.and (ℕ_discrete h g) (ℕ_discrete d e)) a (f h d)

pub upd₂_at : {A : Type 0} (f : ℕ → ℕ → A) (g e : ℕ) (a : A) (h d : ℕ) → (h ≡ g) × (d ≡ e) → upd₂ f g e a h d ≡ a
unfolding upd₂
upd₂_at f g e a h d p = pick_yes (Dec.and (ℕ_discrete h g) (ℕ_discrete d e)) a (f h d) p

pub upd₂_same : {A : Type 0} (f : ℕ → ℕ → A) (g e : ℕ) (a : A) → upd₂ f g e a g e ≡ a
upd₂_same f g e a = upd₂_at f g e a g e (refl, refl)

pub upd₂_other : {A : Type 0} (f : ℕ → ℕ → A) (g e : ℕ) (a : A) (h d : ℕ) → ¬ ((h ≡ g) × (d ≡ e)) → upd₂ f g e a h d ≡ f h d
unfolding upd₂
upd₂_other f g e a h d n = pick_no (Dec.and (ℕ_discrete h g) (ℕ_discrete d e)) a (f h d) n

-- whether two entries are one
pub same_entry? : (g e h d : ℕ) → Dec ((g ≡ h) × (e ≡ d))
same_entry? g e h d = Dec.and (ℕ_discrete g h) (ℕ_discrete e d)

-- f, but a at every entry of level g
pub upd_l : {A : Type 0} → (Cell → A) → ℕ → A → Cell → A
upd_l f g a (ent h e) = pick (ℕ_discrete h g) a (f (ent h e))
upd_l f g a (nxt n) = f (nxt n)

pub upd_l_in : {A : Type 0} (f : Cell → A) (g : ℕ) (a : A) (e : ℕ) → upd_l f g a (ent g e) ≡ a
unfolding upd_l
upd_l_in f g a e = pick_yes (ℕ_discrete g g) a (f (ent g e)) refl

pub upd_l_other : {A : Type 0} (f : Cell → A) (g : ℕ) (a : A) (h e : ℕ) → h ≢ g → upd_l f g a (ent h e) ≡ f (ent h e)
unfolding upd_l
upd_l_other f g a h e n = pick_no (ℕ_discrete h g) a (f (ent h e)) n

pub upd_l_next : {A : Type 0} (f : Cell → A) (g : ℕ) (a : A) (n : ℕ) → upd_l f g a (nxt n) ≡ f (nxt n)
unfolding upd_l
upd_l_next f g a n = refl
