-- Where each destination that the pipes name is there, so is each that the statements name.
use Rattle.std.proofs.Common.{◌≡◌, ℕ, zero, suc, true, List, [], ◌∷◌, ◌++◌, map, Option, Some, None}
use Rattle.std.specs.Prelude.{nat_lt}
use Rattle.std.proofs.lemmas.Bool.{and_parts, ltb-true}
use Rattle.sg_tree.specs.Walk.{Steps}
use Rattle.sg_tree.specs.Laws.{AreDestNumbers, StaysWithin, AllStayWithin, EachStaysWithin, TopsStayWithin}
use Rattle.sg_table.specs.declared.pipe.Branch.{Branch}
use Rattle.sg_table.specs.declared.pipe.Pipe.{Pipe}
use Rattle.sg_table.specs.declared.pipe.Pipe.TheVariants as pipe
use Rattle.sg_table.specs.declared.pipe.Test.{Test}
use Rattle.sg_table.specs.declared.pipe.Top.{Top}
use Rattle.sg_table.specs.Forest.{statement_at}
use Rattle.sg_table.specs.Table.{StepsByPlace, siblings_of, branches_at, choice_of, tests_at, other_at, steps_of, place, read, steps_at}
use Rattle.sg_pipes.specs.Named.{are_there, names_there, pipes_name_there}

dests-there : (n : ℕ) (drivers : List ℕ) → are_there n drivers ≡ true → AreDestNumbers n drivers
dests-there n [] e = tt
dests-there n (d ∷ ds) e =
    let parts = and_parts (nat_lt d n) (are_there n ds) e in
    (ltb-true d n parts.0, dests-there n ds parts.1)

abbrev AllStay : ℕ → List Steps → Type 0
AllStay n [] = Unit {0}
AllStay n (s ∷ ss) = StaysWithin n s × AllStay n ss

all-and-one : (n : ℕ) (ss : List Steps) (s : Steps) → AllStay n ss → StaysWithin n s → AllStay n (ss ++ s ∷ [])
all-and-one n [] s h one = (one, tt)
all-and-one n (x ∷ xs) s h one = (h.0, all-and-one n xs s h.1 one)

place-stays : (n : ℕ) (seen : List Steps) → AllStay n seen → (i : ℕ) → StaysWithin n (place seen i)
place-stays n [] h i = tt
place-stays n (s ∷ ss) h zero = h.0
place-stays n (s ∷ ss) h (suc i) = place-stays n ss h.1 i

module _ (n : ℕ) (at : StepsByPlace) (stay : (i : ℕ) → StaysWithin n (at i)) where
  branches-stay : (branches : List Branch) → AllStayWithin n (siblings_of (branches_at at branches))
  branches-stay [] = tt
  branches-stay (b ∷ bs) = (stay b.start, branches-stay bs)

  other-stays : (other : Option ℕ) → StaysWithin n (other_at at other)
  other-stays None = tt
  other-stays (Some i) = stay i

  tests-stay : (tests : List Test) (other : Option ℕ) → EachStaysWithin n (choice_of (tests_at at tests) (other_at at other))
  tests-stay [] other = other-stays other
  tests-stay (t ∷ ts) other = (stay t.start, tests-stay ts other)

  steps-stay : (one : Pipe) → names_there n one ≡ true → StaysWithin n (steps_of at one)
  steps-stay pipe.End e = tt
  steps-stay (pipe.Filter decision next) e = stay next
  steps-stay (pipe.Rewrite condition change next) e = stay next
  steps-stay (pipe.Parse rule next) e = stay next
  steps-stay (pipe.Deliver drivers next) e = (dests-there n drivers.items e, stay next)
  steps-stay (pipe.Junction channels next) e = (branches-stay channels.items, stay next)
  steps-stay (pipe.If tests other next) e = (tests-stay tests.items other, stay next)
  steps-stay (pipe.Embedded logs) e = branches-stay logs.items

  tops-stay : (tops : List Top) → TopsStayWithin n (map (statement_at at) tops)
  tops-stay [] = tt
  tops-stay (t ∷ ts) = (stay t.branch.start, tops-stay ts)

read-stays : (n : ℕ) (seen : List Steps) → AllStay n seen → (pipes : List Pipe) → pipes_name_there n pipes ≡ true → AllStay n (read seen pipes)
read-stays n seen h [] e = h
read-stays n seen h (one ∷ more) e =
    let parts = and_parts (names_there n one) (pipes_name_there n more) e in
    read-stays n (seen ++ steps_of (place seen) one ∷ []) (all-and-one n seen (steps_of (place seen) one) h (steps-stay n (place seen) (place-stays n seen h) one parts.0)) more parts.1

pub names-stay : (n : ℕ) (pipes : List Pipe) (tops : List Top) → pipes_name_there n pipes ≡ true → TopsStayWithin n (map (statement_at (steps_at pipes)) tops)
names-stay n pipes tops e = tops-stay n (steps_at pipes) (place-stays n (read [] pipes) (read-stays n [] tt pipes e)) tops
