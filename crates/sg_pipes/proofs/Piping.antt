-- What a pipe makes of a message.
use Rattle.std.proofs.Common.{◌≡◌, ℕ, ◌<◌, ◌≤◌, get_or, Bool, true, false, List, [], ◌∷◌, ◌++◌, length, Option, None, Some, Vec, refl, sym, ap, ◌∙◌, arith}
use Rattle.std.specs.Prelude.{cond, slice_get}
use Rattle.std.proofs.lemmas.List.{append_assoc, get_or_past}
use Rattle.std.proofs.lemmas.Option.{slice_get-get_or}
use Rattle.std.specs.declared.alloc.Global.{Global}
use Rattle.sg_msg.specs.Message.{Content}
use Rattle.sg_filter.specs.Decisions.{Decision}
use Rattle.sg_rewrite.specs.declared.change.Change.{Change}
use Rattle.sg_msg.specs.declared.offer.Offer.{Offer}
use Rattle.sg_filter.specs.Decisions.{decides}
use Rattle.sg_parsers.specs.declared.rule.ParserRule.{ParserRule}
use Rattle.sg_parsers.specs.Parsed.{rule_takes, rule_parsed}
use Rattle.sg_tree.specs.Rules.{rewritten_by}
use Rattle.sg_tree.specs.Walk.{Steps, WalkResult, none_left, deliver, walk, chosen, stopped, after_deliveries, deliveries_to}
use Rattle.sg_tree.proofs.Going.{walked}
use Rattle.sg_table.specs.declared.pipe.Test.{Test}
use Rattle.sg_table.specs.declared.pipe.Pipe.{Pipe}
use Rattle.sg_table.specs.declared.pipe.Pipe.TheVariants as pipe
use Rattle.sg_table.specs.Table.{StepsByPlace, choice_of, tests_at, other_at, steps_of, read, steps_at, IsPipeTable}
use Rattle.sg_table.proofs.Tables.{read-length, steps-read}
use Rattle.sg_pipes.specs.Pipes.{start_of, is_end, only_driver, last_driver}

pub past : (all : List Pipe) (i : ℕ) (m : Content) (f : Bool) → length all ≤ i → walk none_left m f ≡ walk (steps_at all i) m f
past all i m f h = ap (λ (s : Steps). walk s m f) (sym (get_or_past (read [] all) i none_left (omega (arith, read-length [] all))))

-- an `if` goes where its first test that decides begins
pub starts : (at : StepsByPlace) (tests : List Test) (other : Option ℕ) (m : Content) (f : Bool)
    → walk (other_at at (start_of tests other m)) m f ≡ chosen (choice_of (tests_at at tests) (other_at at other)) m f
starts at [] other m f = refl
starts at (t ∷ ts) other m f = go (decides t.filter m) (starts at ts other m f)
  where
    go : (b : Bool) → walk (other_at at (start_of ts other m)) m f ≡ chosen (choice_of (tests_at at ts) (other_at at other)) m f
        → walk (other_at at (cond b (Some t.start) (start_of ts other m))) m f ≡ cond b (walk (at t.start) m f) (chosen (choice_of (tests_at at ts) (other_at at other)) m f)
    go true h = refl
    go false h = h

module _ (all : List Pipe) (table : IsPipeTable all) (i : ℕ) (m : Content) (f : Bool) where
  pub here : (one : Pipe) → slice_get all i ≡ Some one → walk (steps_of (steps_at all) one) m f ≡ walk (steps_at all i) m f
  here one e = ap (λ (s : Steps). walk s m f) (sym (steps-read all i one table e))

  pub filter-on : (decision : Decision) (next : ℕ) → slice_get all i ≡ Some (pipe.Filter decision next) → decides decision m ≡ true → walk (steps_at all next) m f ≡ walk (steps_at all i) m f
  filter-on decision next e h = sym (ap (λ (b : Bool). cond b (walk (steps_at all next) m f) stopped) h) ∙ here (pipe.Filter decision next) e

  pub filter-off : (decision : Decision) (next : ℕ) → slice_get all i ≡ Some (pipe.Filter decision next) → decides decision m ≡ false → stopped ≡ walk (steps_at all i) m f
  filter-off decision next e h = sym (ap (λ (b : Bool). cond b (walk (steps_at all next) m f) stopped) h) ∙ here (pipe.Filter decision next) e

  pub rewrite-on : (condition : Option Decision) (change : Change) (next : ℕ) (m' : Content) → slice_get all i ≡ Some (pipe.Rewrite condition change next)
      → m' ≡ rewritten_by (record { condition = condition; change = change }) m → walk (steps_at all next) m' f ≡ walk (steps_at all i) m f
  rewrite-on condition change next m' e h = ap (λ (x : Content). walk (steps_at all next) x f) h ∙ here (pipe.Rewrite condition change next) e

  pub parse-on : (rule : ParserRule) (next : ℕ) (m' : Content) → slice_get all i ≡ Some (pipe.Parse rule next) → rule_takes rule m ≡ true → m' ≡ rule_parsed rule m
      → walk (steps_at all next) m' f ≡ walk (steps_at all i) m f
  parse-on rule next m' e h is =
      ap (λ (x : Content). walk (steps_at all next) x f) is
      ∙ sym (ap (λ (b : Bool). cond b (walk (steps_at all next) (rule_parsed rule m) f) stopped) h) ∙ here (pipe.Parse rule next) e

  pub parse-off : (rule : ParserRule) (next : ℕ) → slice_get all i ≡ Some (pipe.Parse rule next) → rule_takes rule m ≡ false → stopped ≡ walk (steps_at all i) m f
  parse-off rule next e h = sym (ap (λ (b : Bool). cond b (walk (steps_at all next) (rule_parsed rule m) f) stopped) h) ∙ here (pipe.Parse rule next) e

  pub deliver-on : (drivers : Vec ℕ Global) (next : ℕ) (d d' : List Offer) → slice_get all i ≡ Some (pipe.Deliver drivers next) → d' ≡ d ++ deliveries_to drivers.items m f
      → after_deliveries d' (walk (steps_at all next) m f) ≡ after_deliveries d (walk (steps_at all i) m f)
  deliver-on drivers next d d' e h =
      ap (λ (x : List Offer). after_deliveries x (walk (steps_at all next) m f)) h
      ∙ (λ j. walked (append_assoc d (deliveries_to drivers.items m f) (walk (steps_at all next) m f).deliveries j) (walk (steps_at all next) m f).out (walk (steps_at all next) m f).processed)
      ∙ ap (after_deliveries d) (here (pipe.Deliver drivers next) e)

pub get-some : (all : List Pipe) (i : ℕ) (x one : Pipe) → i < length all → x ≡ get_or all i x → x ≡ one → slice_get all i ≡ Some one
get-some all i x one h e is = slice_get-get_or all i x h ∙ ap Some (sym e ∙ is)

-- what is read at a place is what stands there
pub same-at : (all : List Pipe) (i : ℕ) (x one : Pipe) → i < length all → x ≡ get_or all i x → slice_get all i ≡ Some one → x ≡ one
same-at all i x one h e some = let there : slice_get all i ≡ Some x = slice_get-get_or all i x h ∙ ap Some (sym e) in cc

end-there : (o : Option Pipe) → is_end o ≡ true → o ≡ Some pipe.End
end-there (Some pipe.End) e = refl
end-there (Some (pipe.Filter decision next)) e = absurd (cc)
end-there (Some (pipe.Rewrite condition change next)) e = absurd (cc)
end-there (Some (pipe.Parse rule next)) e = absurd (cc)
end-there (Some (pipe.Deliver drivers next)) e = absurd (cc)
end-there (Some (pipe.Junction channels next)) e = absurd (cc)
end-there (Some (pipe.If tests other next)) e = absurd (cc)
end-there (Some (pipe.Embedded logs)) e = absurd (cc)
end-there None e = absurd (cc)

only-one : (drivers : List ℕ) (driver : ℕ) → only_driver drivers ≡ Some driver → drivers ≡ driver ∷ []
only-one [] driver e = absurd (cc)
only-one (only ∷ []) driver e = let same : only ≡ driver = cc in ap (λ (d : ℕ). d ∷ []) same
only-one (first ∷ second ∷ drivers) driver e = absurd (cc)

-- a driver with which a list ends has what the list delivers
module _ (all : List Pipe) (table : IsPipeTable all) (i : ℕ) (driver : ℕ) (m : Content) (f : Bool) where
  pub last-delivers : Some driver ≡ last_driver all (slice_get all i) → (walk (steps_at all i) m f).deliveries ≡ deliveries_to (driver ∷ []) m f
  last-delivers = by (slice_get all i) refl
    where
      ends : (drivers : Vec ℕ Global) (next : ℕ) (b : Bool) → is_end (slice_get all next) ≡ b → slice_get all i ≡ Some (pipe.Deliver drivers next)
          → Some driver ≡ cond b (only_driver drivers.items) None → (walk (steps_at all i) m f).deliveries ≡ deliveries_to (driver ∷ []) m f
      ends drivers next false is there e = absurd (cc)
      ends drivers next true is there e =
          let left : steps_at all next ≡ none_left = steps-read all next pipe.End table (end-there (slice_get all next) is) in
          let one : drivers.items ≡ driver ∷ [] = only-one drivers.items driver (sym e) in
          ap (λ (w : WalkResult). w.deliveries) (sym (here all table i m f (pipe.Deliver drivers next) there))
          ∙ ap (λ (s : Steps). (walk (deliver drivers.items s) m f).deliveries) left
          ∙ ap (λ (ds : List ℕ). (walk (deliver ds none_left) m f).deliveries) one

      by : (o : Option Pipe) → slice_get all i ≡ o → Some driver ≡ last_driver all o → (walk (steps_at all i) m f).deliveries ≡ deliveries_to (driver ∷ []) m f
      by (Some pipe.End) there e = absurd (cc)
      by (Some (pipe.Filter decision next)) there e = absurd (cc)
      by (Some (pipe.Rewrite condition change next)) there e = absurd (cc)
      by (Some (pipe.Parse rule next)) there e = absurd (cc)
      by (Some (pipe.Deliver drivers next)) there e = ends drivers next (is_end (slice_get all next)) refl there e
      by (Some (pipe.Junction channels next)) there e = absurd (cc)
      by (Some (pipe.If tests other next)) there e = absurd (cc)
      by (Some (pipe.Embedded logs)) there e = absurd (cc)
      by None there e = absurd (cc)
