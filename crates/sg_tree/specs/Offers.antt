-- What a configuration's log paths offer for a record.
use Rattle.std.specs.Prelude.{◌≡◌, ◌==◌, ℕ, Bool, true, false, not, ◌&&◌, ◌||◌, List, [], ◌∷◌, length, map, if◌then◌else◌, slice_get, Some}
use Rattle.std.specs.List.{list_any}
use Rattle.sg_msg.specs.Message.{Content}
use Rattle.sg_msg.specs.declared.offer.Offer.{Offer}
use Rattle.sg_frame.specs.Records.{Record}
use Rattle.sg_filter.specs.declared.expr.Expr.{Expr}
use Rattle.sg_tree.specs.declared.tree.Path.{Path, out-Path}
use Rattle.sg_tree.specs.declared.forest.Forest.{Forest}
use Rattle.sg_tree.specs.Walk.{Marks, Steps, Siblings, no_siblings, sibling, branches}
use Rattle.sg_tree.specs.Plain.{marks, own_steps}
use Rattle.sg_tree.specs.Readings.{InletReading, inlet_of, IsRecordReading}

-- a top-level statement
pub record TopStatement : Type 0 where
  pub sources : List ℕ
  pub catchall : Bool
  pub marks : Marks
  pub steps : Steps

-- what a forest means
pub record Woods : Type 0 where
  pub inlets : List InletReading
  pub dests : ℕ
  pub tops : List TopStatement

abbrev pub top_view : List Expr → Path → TopStatement
top_view named path =
    record {
      sources = (out-Path path).sources.items;
      catchall = (out-Path path).catchall;
      marks = marks path;
      steps = own_steps named path;
    }

abbrev pub woods_of : Forest → Woods
woods_of forest = record {
  inlets = map inlet_of forest.inlets.items;
  dests = length forest.dests.items;
  tops = map (top_view forest.filters.items) forest.paths.items;
}

-- a statement is offered the messages of the inlets that it names, or of all
abbrev pub is_offered : ℕ → TopStatement → Bool
is_offered inlet top = top.catchall || list_any (λ source. source == inlet) top.sources

abbrev pub offered : ℕ → List TopStatement → Siblings
offered inlet [] = no_siblings
offered inlet (top ∷ tops) = if is_offered inlet top
    then sibling top.marks top.steps (offered inlet tops) else offered inlet tops

-- what the top-level statements deliver of a message of an inlet
abbrev pub deliveries_of : Woods → ℕ → Content → List Offer
deliveries_of woods i message = (branches (offered i woods.tops) message false).deliveries

abbrev pub is_empty : List ℕ → Bool
is_empty [] = true
is_empty (b ∷ bs) = false

-- an empty record becomes a message only where its inlet takes empty lines
abbrev pub is_skipped : InletReading → List ℕ → Bool
is_skipped inlet text = is_empty text && not inlet.empty_lines

abbrev pub AreOffersUnless : Bool → Woods → InletReading → ℕ → Record → List Offer → Type 0
AreOffersUnless true woods inlet i of_record offers = offers ≡ []
AreOffersUnless false woods inlet i of_record offers =
    (message : Content) × (
    IsRecordReading inlet of_record.item.text of_record.item.at of_record.peer message
    × (offers ≡ deliveries_of woods i message))

-- the offers for a record of the inlet of this number
abbrev pub AreOffers : Woods → ℕ → Record → List Offer → Type 0
AreOffers woods i of_record offers =
    (inlet : InletReading) × ((slice_get woods.inlets i ≡ Some inlet)
    × AreOffersUnless (is_skipped inlet of_record.item.text) woods inlet i of_record offers)
