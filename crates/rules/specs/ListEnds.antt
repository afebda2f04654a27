-- How far a list of turns comes: "It ends at the list's end, once as many turns are done as the limit, or at a 6", and what is skipped counts nothing.
-- Relies on the definition of a list of turns and on demand 1's words.
use Rattle.std.specs.Prelude.{ℕ, ◌≤◌, ◌<◌, ◌≡◌, ◌⊎◌, true, false, List, [], ◌∷◌, ◌++◌}
use Rattle.settings.specs.declared.Settings.{Settings}
use Rattle.areas.specs.Memory.{Areas}
use Rattle.rules.specs.Lists.{State, state, after, Visit, turn_at, visits, counts, turns_done, list_questions, turns}
use Rattle.rules.specs.Refusals.{AllYes}

-- the workers at the entries reached
unfoldable pub workers_at : List Visit → List ℕ
workers_at [] = []
workers_at (v ∷ vs) = v.worker ∷ workers_at vs

-- what holds of every entry reached from the state x, with the entries before it
abbrev pub AtEach : ℕ → List ℕ → ℕ → State → (List Visit → Visit → Type 0) → Type 0
AtEach w l limit x P = (before : List Visit) (v : Visit) (more : List Visit) → visits w l limit x ≡ before ++ v ∷ more → P before v

-- a list of turns whose questions 1 to 4 are answered yes
pub record ListEnds (w : ℕ) (s : Settings) (l : List ℕ) (limit : ℕ) (a : Areas) : Type 0 where
  -- the entries that are not reached
  pub rest : List ℕ
  -- "the entries reached" are the list's first ones
  -- excludes: a list that leaves an entry out, or takes its entries in another order
  pub beginning : l ≡ workers_at (visits w l limit (state s a)) ++ rest
  -- the first entry finds what the list was handed, each later one what the one before it left
  -- excludes: a list whose turns all begin at the state that it was handed
  pub first : (v : Visit) (more : List Visit) → visits w l limit (state s a) ≡ v ∷ more → v.before ≡ state s a
  pub next : (before : List Visit) (v u : Visit) (more : List Visit) → visits w l limit (state s a) ≡ before ++ v ∷ u ∷ more → u.before ≡ after (turn_at w v)
  -- "the entries reached whose worker had a call open, "full" included, the one that met 6 not"
  -- excludes: a list that invents its turns done
  pub counted : (turns w s l limit a).reply.turns ≡ turns_done w (visits w l limit (state s a))
  -- "the turns before that stay, in the settings also": the list leaves what its last entry reached left, and changes nothing where none is reached
  -- excludes: a list that loses the changes of its last entry
  pub left : (before : List Visit) (v : Visit) → visits w l limit (state s a) ≡ before ++ v ∷ [] → after (turns w s l limit a) ≡ after (turn_at w v)
  pub none_left : visits w l limit (state s a) ≡ [] → after (turns w s l limit a) ≡ state s a
  -- no more turns are done than the limit: "Limit 0 does none."
  -- excludes: idle entries counted as turns done
  pub within : (turns w s l limit a).reply.turns ≤ limit
  -- "It ends at the list's end, once as many turns are done as the limit, or at a 6, which it gives too"
  -- excludes: idle entries that use up the limit; a list that stops at a "full" (that 6 is given only where an entry meets it is `RefusesList`)
  pub ends : (rest ≡ []) ⊎ (((turns w s l limit a).reply.turns ≡ limit) ⊎ ((turns w s l limit a).reply.number ≡ 6))
  -- "once as many turns are done as the limit": no entry is reached after that
  -- excludes: a list that looks at idle entries behind its limit, and meets a 6 there
  pub below : AtEach w l limit (state s a) (λ before v. turns_done w before < limit)
  -- an entry's turn is done, ends "full", is skipped or meets 6
  -- excludes: a list whose turns leave settings or areas that its next entry refuses by 1 to 4
  pub numbers : AtEach w l limit (state s a) (λ before v. ((turn_at w v).reply.number ≡ 0) ⊎ (((turn_at w v).reply.number ≡ 9) ⊎ (((turn_at w v).reply.number ≡ 8) ⊎ ((turn_at w v).reply.number ≡ 6))))
  -- "Entries of idle workers are skipped.": nothing is changed, nothing is counted
  -- excludes: an idle entry that writes a record, or takes a node
  pub skipped : AtEach w l limit (state s a) (λ before v. (turn_at w v).reply.number ≡ 8 → (after (turn_at w v) ≡ v.before) × (counts w v ≡ false))
  -- what is done counts, "full" included
  -- excludes: a list that does not count the turn that ended "full"
  pub done : AtEach w l limit (state s a) (λ before v. ((turn_at w v).reply.number ≡ 0) ⊎ ((turn_at w v).reply.number ≡ 9) → counts w v ≡ true)

-- over settings and memory of any content
abbrev pub ListsEnd : ℕ → Type 0
ListsEnd w = (s : Settings) (l : List ℕ) (limit : ℕ) (a : Areas) → AllYes (list_questions w s l a) → ListEnds w s l limit a
