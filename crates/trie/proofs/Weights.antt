-- The weights of the measure by which a call with all turns to itself ends: places, levels, nodes to be set, frames.
-- Relies on Digits.
use mathlib.Core.Path.{◌≡◌, refl}
use Prim.Native.Nat.{ℕ, zero, suc, ◌+◌, ◌*◌, ◌-◌, ◌≤◌, ◌<◌}
use native.Mathlib.Nat.{mul-suc, mul-le-mul_left, mul-le-mul_right}
use native.Mathlib.Omega.{arith}
use Rattle.trie.proofs.Digits.{Dims}

-- k for each depth from d on
unfoldable pub under : Dims → ℕ → ℕ → ℕ
under δ k d = k * (δ.depths - d)

-- the places of one walk: as many nodes as a chain holds, at each depth; an entry comes before them all
unfoldable pub places : Dims → ℕ
places δ = δ.limit * δ.depths

-- more than the turns of one walk: four at each place, and one before
unfoldable pub visit : Dims → ℕ
visit δ = 4 * places δ + 6

-- more than the turns that set one node: a walk at each depth
unfoldable pub errand : Dims → ℕ
errand δ = visit δ * suc δ.depths

-- the same for n nodes
unfoldable pub errands : Dims → ℕ → ℕ
errands δ n = errand δ * n

-- more than the turns that set the nodes of a chain
unfoldable pub frame : Dims → ℕ
frame δ = errands δ (suc δ.limit)

-- the same for n frames
unfoldable pub frames : Dims → ℕ → ℕ
frames δ n = n * frame δ

-- more than the turns from one closed chain to the next
unfoldable pub stretch : Dims → ℕ
stretch δ = (δ.depths + 2) * frame δ

-- one depth more leaves k less
pub under_less : (δ : Dims) (k : ℕ) {d e : ℕ} → d < e → d < δ.depths → under δ k e + k ≤ under δ k d
unfolding under
under_less δ k {d} {e} l h =
    let a : suc (δ.depths - e) ≤ δ.depths - d = omega arith in
    let b = mul-le-mul_left k a in
    let c = mul-suc k (δ.depths - e) in
    omega arith

under_most : (δ : Dims) (k d : ℕ) → under δ k d ≤ k * δ.depths
unfolding under
under_most δ k d = mul-le-mul_left k (omega arith)

-- a rank at depth d: what is left under it, and fewer than a chain holds
pub under-places : (δ : Dims) {d k : ℕ} → d < δ.depths → k < δ.limit → under δ δ.limit (suc d) + k < places δ
unfolding places
under-places δ {d} l h =
    let a = under_less δ δ.limit {d = d} {e = suc d} (omega arith) l in
    let b = under_most δ δ.limit d in
    omega arith

pub visit_is : (δ : Dims) → visit δ ≡ 4 * places δ + 6
unfolding visit
visit_is δ = refl

-- a walk at depth d and those under it
pub under-errand : (δ : Dims) (d : ℕ) → under δ (visit δ) d + visit δ ≤ errand δ
unfolding errand
under-errand δ d =
    let a = under_most δ (visit δ) d in
    let b = mul-suc (visit δ) δ.depths in
    omega arith

pub errands-suc : (δ : Dims) (n : ℕ) → errands δ (suc n) ≡ errands δ n + errand δ
unfolding errands
errands-suc δ n = mul-suc (errand δ) n

pub errands-le : (δ : Dims) {m n : ℕ} → m ≤ n → errands δ m ≤ errands δ n
unfolding errands
errands-le δ h = mul-le-mul_left (errand δ) h

pub frame_is : (δ : Dims) → frame δ ≡ errands δ δ.limit + errand δ
unfolding frame
frame_is δ = errands-suc δ δ.limit

pub no_frames : (δ : Dims) → frames δ 0 ≡ 0
unfolding frames
no_frames δ = omega arith

pub frames-suc : (δ : Dims) (n : ℕ) → frames δ (suc n) ≡ frames δ n + frame δ
unfolding frames
frames-suc δ n = omega arith

-- a frame is more than the reads of its chain
frame-more : (δ : Dims) → suc δ.limit < frame δ
unfolding frame errands
frame-more δ =
    let a : suc (suc zero) ≤ errand δ = let b = under-errand δ 0 in let c = visit_is δ in omega arith in
    let b = mul-le-mul_right (suc δ.limit) a in
    omega arith

-- what a Move has before it, with n frames around it
pub stretch_most : (δ : Dims) {n : ℕ} → n < δ.depths → frames δ n + (errand δ + (frame δ + suc δ.limit)) < stretch δ
unfolding stretch frames
stretch_most δ {n} h =
    let g : suc n ≤ δ.depths = omega arith in
    let a = mul-le-mul_right (frame δ) g in
    let b = frame-more δ in
    let c = frame_is δ in
    omega arith
