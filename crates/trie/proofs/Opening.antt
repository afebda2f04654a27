-- The table right after an opening: one empty level, no node.
-- Relies on Digits, Update, Chain, World and Whole.
use mathlib.Core.Path.{◌≡◌, refl, ap}
use mathlib.Core.Logic.{◌≢◌}
use mathlib.Core.List.Memᴰ
use mathlib.Core.List.{[]}
use Prim.Native.Nat.{ℕ, ◌<◌}
use native.Mathlib.Decide.{ℕ_discrete}
use native.Mathlib.Omega.{arith}
use Rattle.trie.proofs.Digits.{Dims}
use Rattle.trie.proofs.Update.{Cell, upd, upd_same, upd_other, upd_l, upd_l_in}
use Rattle.trie.proofs.Chain.{level_ref}
use Rattle.trie.proofs.World.{World, SlotOk}
use Rattle.trie.proofs.Whole.{Worker, is_idle, idle, Inv, owner}

-- every level but the root is not taken
abbrev pub owners : ℕ → ℕ
owners = upd (λ g. 1) 0 0

-- what the areas held before stays in `pixel`, `cell`, `prev` and `depth` wherever the opening did not write
abbrev pub opened : {δ : Dims} → (pixel : ℕ → ℕ) (cell : Cell → ℕ) (prev depth : ℕ → ℕ) → ℕ → World δ
opened pixel cell prev depth none =
    record {
      tree = record { prev = upd prev 0 none; depth = upd depth 0 0; pfx = λ g. 0; into = λ g e. 0; level_owner = owners };
      pixel = pixel;
      cell = upd_l cell 0 (level_ref 0);
      node_owner = λ n. 1;
      chain = λ g e. [];
      home = λ n. 0;
      mover = λ c. 0;
      book = [];
    }

-- a worker before its first call
abbrev pub fresh : Worker
fresh = record { key = 0; since = 0; node = 0; level = 0; act = idle }

pub opened_inv : {δ : Dims} (pixel : ℕ → ℕ) (cell : Cell → ℕ) (prev depth : ℕ → ℕ) (none : ℕ) → 0 < δ.depths → Inv {δ = δ} (opened pixel cell prev depth none) (λ i. fresh)
opened_inv {δ} pixel cell prev depth none pos =
    record {
      structure = record {
        tree_ok = record {
          root = upd_same {A = ℕ} (λ g. 1) 0 0;
          root_depth = upd_same depth 0 0;
          root_pfx = refl;
          child = λ g p z. absurd (only g p z);
          bounded = λ g p. bound g p (ℕ_discrete g 0);
          closed = λ g e z. absurd (z refl);
        };
        homed = λ n g e i. absurd (Memᴰ.not-nil i);
        in_chain = λ n p. absurd (omega arith);
        once = λ g e. tt;
        slot = λ g e p l. slot g e p (ℕ_discrete g 0);
      };
      partition = record { noted = λ n p. absurd (omega arith); noted-placed = λ n i. absurd (Memᴰ.not-nil i); noted_once = tt; one_node = λ m n p q e. absurd (omega arith) };
      each = λ i. record {
        acts = is_idle;
        holds_node = λ n. (λ p. absurd (omega arith), λ q. absurd (omega arith));
        holds_level = λ g. (λ p. absurd (owned i g p (ℕ_discrete g 0)), λ q. absurd (omega arith));
      };
    }
  where
    only : (g : ℕ) → owners g ≡ 0 → g ≢ 0 → ⊥
    only g p z = omega (arith, p, upd_other {A = ℕ} (λ g. 1) 0 0 g z)

    bound : (g : ℕ) → owners g ≡ 0 → Dec (g ≡ 0) → upd depth 0 0 g < δ.depths
    bound g p (yes e) = rw (e, upd_same depth 0 0) pos
    bound g p (no z) = absurd (only g p z)

    owned : (i g : ℕ) → owners g ≡ owner i → Dec (g ≡ 0) → ⊥
    owned i g p (yes e) = omega (arith, p, ap owners e, upd_same {A = ℕ} (λ g. 1) 0 0)
    owned i g p (no z) = omega (arith, p, upd_other {A = ℕ} (λ g. 1) 0 0 g z)

    slot : (g e : ℕ) → owners g ≡ 0 → Dec (g ≡ 0) → SlotOk {δ = δ} (opened pixel cell prev depth none) g e
    slot g e p (yes q) = record { links = tt; short = omega arith; if_open = λ z. rw q (upd_l_in cell 0 (level_ref 0) e); if_closed = λ z. absurd (z refl); direct = λ t z. absurd (z refl) }
    slot g e p (no z) = absurd (only g p z)
