-- References, and the cells of a chain: from a first cell along the nodes' next words to the cell at the end.
-- Relies on Update and Lists.
use mathlib.Core.Path.{◌≡◌, refl, ◌∙◌}
use mathlib.Core.Logic.{◌≢◌}
use mathlib.Core.List.Memᴰ
use mathlib.Core.List.{List, [], ◌∷◌, ◌++◌}
use Prim.Native.Nat.{ℕ, ◌+◌, ◌*◌}
use native.Mathlib.Omega.{arith}
use Rattle.trie.proofs.Update.{Cell, ent, nxt, upd_c, upd_c_other}
use Rattle.trie.proofs.Lists.{◌∈◌, NoDup}

abbrev pub level_ref : ℕ → ℕ
level_ref g = 2 * g

abbrev pub node_ref : ℕ → ℕ
node_ref n = 2 * n + 1

pub nxt_inj : {m n : ℕ} → nxt m ≡ nxt n → m ≡ n
nxt_inj e = cc

pub ent_inj : {g e h f : ℕ} → ent g e ≡ ent h f → (g ≡ h) × (e ≡ f)
ent_inj p = (cc, cc)

pub ent_nxt : {g e n : ℕ} → ent g e ≢ nxt n
ent_nxt p = let z : ◌≡◌ {A = ℕ} 0 1 = cc in omega arith

-- the cell after the last node of a chain that begins at cell x
abbrev pub end_cell : Cell → List ℕ → Cell
end_cell x [] = x
end_cell x (n ∷ ns) = end_cell (nxt n) ns

-- from cell x the words lead to the nodes in order
abbrev pub Links : (Cell → ℕ) → Cell → List ℕ → Type 0
Links f x [] = Unit {0}
Links f x (n ∷ ns) = (f x ≡ node_ref n) × Links f (nxt n) ns

pub end_at : (x : Cell) (pre : List ℕ) (n : ℕ) (post : List ℕ) → end_cell x (pre ++ n ∷ post) ≡ end_cell (nxt n) post
end_at x [] n post = refl
end_at x (m ∷ pre) n post = end_at (nxt m) pre n post

pub links_at : (f : Cell → ℕ) (x : Cell) (pre : List ℕ) (n : ℕ) (post : List ℕ) → Links f x (pre ++ n ∷ post) → Links f (nxt n) post
links_at f x [] n post l = l.1
links_at f x (m ∷ pre) n post l = links_at f (nxt m) pre n post l.1

pub links_snoc : (f : Cell → ℕ) (x : Cell) (ns : List ℕ) (n : ℕ) → Links f x ns → f (end_cell x ns) ≡ node_ref n → Links f x (ns ++ (n ∷ []))
links_snoc f x [] n l e = (e, tt)
links_snoc f x (m ∷ ns) n l e = (l.0, links_snoc f (nxt m) ns n l.1 e)

pub links_init : (f : Cell → ℕ) (x : Cell) (ns : List ℕ) (n : ℕ) → Links f x (ns ++ (n ∷ [])) → Links f x ns × (f (end_cell x ns) ≡ node_ref n)
links_init f x [] n l = (tt, l.0)
links_init f x (m ∷ ns) n l = let r = links_init f (nxt m) ns n l.1 in ((l.0, r.0), r.1)

-- the end cell is the first one or a node's next
pub data EndOf (x : Cell) (ns : List ℕ) : Type 0 where
  first : ns ≡ [] → end_cell x ns ≡ x → EndOf x ns
  after : (m : ℕ) → m ∈ ns → end_cell x ns ≡ nxt m → EndOf x ns

pub end_of : (x : Cell) (ns : List ℕ) → EndOf x ns
end_of x [] = first refl refl
end_of x (n ∷ ns) = by (end_of (nxt n) ns)
  where
    by : EndOf (nxt n) ns → EndOf x (n ∷ ns)
    by (first e p) = after n (Memᴰ.head refl) p
    by (after m i p) = after m (Memᴰ.tail i) p

-- a chain none of whose words changed
pub links_frame : (f f' : Cell → ℕ) (x : Cell) (ns : List ℕ) → f' x ≡ f x → ((n : ℕ) → n ∈ ns → f' (nxt n) ≡ f (nxt n)) → Links f x ns → Links f' x ns × (f' (end_cell x ns) ≡ f (end_cell x ns))
links_frame f f' x [] h k l = (tt, h)
links_frame f f' x (n ∷ ns) h k l =
    let r = links_frame f f' (nxt n) ns (k n (Memᴰ.head refl)) (λ m i. k m (Memᴰ.tail i)) l.1 in
    ((h ∙ l.0, r.0), r.1)

-- a chain of which only the end cell changed
pub links_end : (f : Cell → ℕ) (x : Cell) (ns : List ℕ) (v : ℕ) → ((n : ℕ) → n ∈ ns → x ≢ nxt n) → NoDup ns → Links f x ns → Links (upd_c f (end_cell x ns) v) x ns
links_end f x [] v a d l = tt
links_end f x (n ∷ ns) v a d l =
    (upd_c_other f (end_cell (nxt n) ns) v x (away (end_of (nxt n) ns)) ∙ l.0, links_end f (nxt n) ns v (λ m i e. d.0 (Memᴰ.cast (nxt_inj e) i)) d.1 l.1)
  where
    away : EndOf (nxt n) ns → x ≢ end_cell (nxt n) ns
    away (first e p) q = a n (Memᴰ.head refl) (q ∙ p)
    away (after m i p) q = a m (Memᴰ.tail i) (q ∙ p)

-- the word after the first nodes of a chain is the next node
pub links_next : (f : Cell → ℕ) (x : Cell) (pre : List ℕ) (n : ℕ) (post : List ℕ) → Links f x (pre ++ n ∷ post) → f (end_cell x pre) ≡ node_ref n
links_next f x [] n post l = l.0
links_next f x (m ∷ pre) n post l = links_next f (nxt m) pre n post l.1
