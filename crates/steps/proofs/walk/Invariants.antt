-- What the loop of `steps::walk` keeps: the way from here, by the words that may still be read, is the whole way.
-- Relies on the code's cut.
use Rattle.std.proofs.Common.{◌≡◌, ◌-◌}
use Rattle.words.specs.Digits.{last_depth}
use Rattle.steps.specs.Cut.{walk_within}
use Rattle.steps.proofs.walk.Given as goal

abbrev pub invariant-loop : goal.invariant-loop
invariant-loop l = walk_within l.w l.taken l.levels (last_depth l.w - l.counter) l.level l.at ≡ walk_within l.w l.taken l.levels (last_depth l.w) l.level l.t
