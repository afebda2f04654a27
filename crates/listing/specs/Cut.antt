-- The least pixel of the marked nodes, as the code finds it. A reader need not believe it: Least ties it to what is reached.
-- Relies on areas for the words, on reach for a reference that names nothing taken, on Next for the smallest pixel.
use Rattle.std.specs.Prelude.{ℕ, ◌≡◌, ◌&&◌, min, not, List, Option, None, Some, Ok, Err, filter, map, nat_eq, nat_le, get_or}
use Rattle.std.specs.List.{range_with_len, reduce}
use Rattle.words.specs.Digits.{max_pixel}
use Rattle.settings.specs.declared.Settings.{Settings}
use Rattle.settings.specs.declared.Refusal.TheVariants.{Memory as Dangles}
use Rattle.areas.specs.Memory.{Memory, pixel_at}
use Rattle.reach.specs.Reachable.{Dangling}
use Rattle.listing.specs.Next.{Given, Smallest, NoneAbove}

-- the pixel numbers that are not below the place, of the marked nodes among the first k
abbrev pub held : List ℕ → List ℕ → ℕ → ℕ → List ℕ
held nodes marks place k =
    filter (λ p. nat_le place p && nat_le p max_pixel) (map (λ i. pixel_at nodes i) (filter (λ i. not (nat_eq (get_or marks i 0) 0)) (range_with_len 0 k)))

-- the least of them
unfoldable pub least_of : List ℕ → List ℕ → ℕ → ℕ → Option ℕ
least_of nodes marks place k = reduce min (held nodes marks place k)

-- what the search and the least pixel tell of a place
abbrev pub SeenFrom : ℕ → Settings → Memory → ℕ → Given → Type 0
SeenFrom w s m place (Ok (Some p)) = (¬ (Dangling w s m)) × Smallest w m place p
SeenFrom w s m place (Ok None) = (¬ (Dangling w s m)) × NoneAbove w m place
SeenFrom w s m place (Err r) = (r ≡ Dangles) × Dangling w s m
