-- What a message does on its way through a log path (syslog-ng's administration guide, "Log paths"; what counts as processed is this
-- project's choice).
use Rattle.std.specs.Prelude.{ℕ, suc, ◌+◌, Bool, true, false, ◌&&◌, ◌||◌, List, [], ◌∷◌, ◌++◌, map, if◌then◌else◌}
use Rattle.sg_msg.specs.Message.{Content}
use Rattle.sg_msg.specs.declared.offer.Offer.{Offer}
use Rattle.sg_filter.specs.Decisions.{Decision, decides}
use Rattle.sg_parsers.specs.declared.rule.ParserRule.{ParserRule}
use Rattle.sg_parsers.specs.Parsed.{rule_takes, rule_parsed}
use Rattle.sg_tree.specs.Rules.{Rule, rewritten_by}

-- the flags of a statement or channel
pub record Marks : Type 0 where
  pub is_final : Bool
  pub fallback : Bool
  pub flow : Bool
  pub drop_unmatched : Bool

-- The elements of a list, each in front of those behind it.
mutual
  pub data Steps : Type 0 where
    none_left : Steps
    filter : Decision → Steps → Steps
    rewrite : Rule → Steps → Steps
    parse : ParserRule → Steps → Steps
    deliver : List ℕ → Steps → Steps
    junction : Siblings → Steps → Steps
    choose : Choice → Steps → Steps
    -- embedded statements, which stand last
    embedded : Siblings → Steps

  pub data Siblings : Type 0 where
    no_siblings : Siblings
    sibling : Marks → Steps → Siblings → Siblings

  -- `if` and `elif`, and the `else` branch
  pub data Choice : Type 0 where
    otherwise : Steps → Choice
    test : Decision → Steps → Choice → Choice

-- the deliveries, the messages that come out, and whether the message was processed
pub record WalkResult : Type 0 where
  pub deliveries : List Offer
  pub out : List Content
  pub processed : Bool

-- no delivery, nothing out, not processed
abbrev pub stopped : WalkResult
stopped = record { deliveries = []; out = []; processed = false }

-- one and then the other
abbrev pub both : WalkResult → WalkResult → WalkResult
both a b = record {
  deliveries = a.deliveries ++ b.deliveries;
  out = a.out ++ b.out;
  processed = a.processed || b.processed;
}

-- the rest over each message, in order
abbrev pub each : (Content → WalkResult) → List Content → WalkResult
each rest [] = stopped
each rest (m ∷ ms) = both (rest m) (each rest ms)

-- the rest over each message that came out, processed where both were
abbrev pub then_each : WalkResult → (Content → WalkResult) → WalkResult
then_each first rest =
    let later = each rest first.out in
    record {
      deliveries = first.deliveries ++ later.deliveries;
      out = later.out;
      processed = first.processed && later.processed;
    }

-- one delivery to each driver
abbrev pub deliveries_to : List ℕ → Content → Bool → List Offer
deliveries_to drivers m f = map (λ d. record { dest = d; message = m; flow = f }) drivers

abbrev pub after_deliveries : List Offer → WalkResult → WalkResult
after_deliveries offers rest = record rest { deliveries = offers ++ rest.deliveries }

-- a sibling counts as having processed the message also where it carries `drop-unmatched`
abbrev pub counted : Marks → WalkResult → WalkResult
counted marks walked = record walked { processed = walked.processed || marks.drop_unmatched }

-- a final one that counts is the last
abbrev pub up_to_final : Bool → WalkResult → WalkResult → WalkResult
up_to_final is_final mine more = if mine.processed && is_final then mine else both mine more

-- where none of the first round counts, the second round
abbrev pub two_rounds : WalkResult → WalkResult → WalkResult
two_rounds first second = if first.processed then first else both first second

abbrev pub is_in_round : Bool → Marks → Bool
is_in_round true marks = marks.fallback
is_in_round false marks = if marks.fallback then false else true

abbrev mutual
  -- by the first element
  pub walk : Steps → Content → Bool → WalkResult
  walk none_left m f = record { deliveries = []; out = m ∷ []; processed = true }
  walk (filter decision rest) m f = if decides decision m then walk rest m f else stopped
  walk (rewrite rule rest) m f = walk rest (rewritten_by rule m) f
  walk (parse rule rest) m f =
      if rule_takes rule m then walk rest (rule_parsed rule m) f else stopped
  walk (deliver drivers rest) m f = after_deliveries (deliveries_to drivers m f) (walk rest m f)
  walk (junction channels rest) m f =
      then_each (two_rounds (round channels false m f) (round channels true m f)) (λ n. walk rest n f)
  walk (choose choice rest) m f = then_each (chosen choice m f) (λ n. walk rest n f)
  walk (embedded logs) m f = record {
    deliveries = (two_rounds (round logs false m f) (round logs true m f)).deliveries;
    out = m ∷ [];
    processed = true;
  }

  -- the siblings of one round in order, those with `fallback` in the second
  pub round : Siblings → Bool → Content → Bool → WalkResult
  round no_siblings late m f = stopped
  round (sibling marks steps more) late m f =
      if is_in_round late marks
      then up_to_final marks.is_final (counted marks (walk steps m (f || marks.flow)))
      (round more late m f)
      else round more late m f

  -- the first branch whose condition holds
  pub chosen : Choice → Content → Bool → WalkResult
  chosen (otherwise steps) m f = walk steps m f
  chosen (test decision steps more) m f =
      if decides decision m then walk steps m f else chosen more m f

abbrev pub branches : Siblings → Content → Bool → WalkResult
branches siblings m f = two_rounds (round siblings false m f) (round siblings true m f)

-- how many parts a list of elements has
abbrev mutual
  pub size : Steps → ℕ
  size none_left = 2
  size (filter decision rest) = suc (size rest)
  size (rewrite rule rest) = suc (size rest)
  size (parse rule rest) = suc (size rest)
  size (deliver drivers rest) = suc (size rest)
  size (junction channels rest) = suc (siblings_size channels + size rest)
  size (choose choice rest) = suc (choice_size choice + size rest)
  size (embedded logs) = suc (siblings_size logs)

  pub siblings_size : Siblings → ℕ
  siblings_size no_siblings = 1
  siblings_size (sibling marks steps more) = suc (size steps + siblings_size more)

  pub choice_size : Choice → ℕ
  choice_size (otherwise steps) = suc (size steps)
  choice_size (test decision steps more) = suc (size steps + choice_size more)
