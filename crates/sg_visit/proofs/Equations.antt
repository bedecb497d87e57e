-- The equations of leaves.
use Rattle.std.proofs.Common.{◌≡◌, List, [], ◌∷◌, ◌++◌, Option, Some, None, sym, ap, ◌∙◌}
use Rattle.std.specs.List.{flat_map}
use Rattle.std.proofs.lemmas.List.Folds.{flat_map-map}
use Rattle.sg_parse_base.specs.declared.spot.Spot.{Spot}
use Rattle.sg_parse_path.specs.declared.reference.ReferenceKind.TheVariants as kind
use Rattle.sg_parse_path.specs.declared.tree.RawRef.{RawRef}
use Rattle.sg_parse_path.specs.declared.tree.RawElement.{RawElement, fold-roll-RawElement}
use Rattle.sg_parse_path.specs.declared.tree.RawElement.TheOpen.{RawElement-F}
use Rattle.sg_parse_path.specs.declared.tree.RawElement.TheVariants as e
use Rattle.sg_parse_path.specs.declared.tree.RawElement.TheVariants.{rolls-Source, rolls-Destination, rolls-Filter, rolls-Rewrite, rolls-Parser, rolls-Junction, rolls-If}
use Rattle.sg_parse_path.specs.declared.tree.RawLog.{RawLog, out-RawLog, fold_out-RawLog}
use Rattle.sg_parse_path.specs.declared.tree.RawBranch.{RawBranch, out-RawBranch, fold_out-RawBranch}
use Rattle.sg_visit.specs.Leaves.{Leaf, Leaves, element_step, log_step, branch_step, element_leaves, log_leaves, branch_leaves, other_leaves}

pub leaves_source : (word : Spot) (ref : RawRef) → element_leaves (e.Source word ref) ≡ Leaf.source word ∷ Leaf.reference kind.Source ref ∷ []
unfolding element_leaves
leaves_source word ref = ap element_leaves (sym (rolls-Source word ref)) ∙ fold-roll-RawElement Leaves Leaves Leaves element_step branch_step log_step (RawElement-F.Source word ref)

pub leaves_destination : (ref : RawRef) → element_leaves (e.Destination ref) ≡ Leaf.reference kind.Destination ref ∷ []
unfolding element_leaves
leaves_destination ref = ap element_leaves (sym (rolls-Destination ref)) ∙ fold-roll-RawElement Leaves Leaves Leaves element_step branch_step log_step (RawElement-F.Destination ref)

pub leaves_filter : (ref : RawRef) → element_leaves (e.Filter ref) ≡ Leaf.reference kind.Filter ref ∷ []
unfolding element_leaves
leaves_filter ref = ap element_leaves (sym (rolls-Filter ref)) ∙ fold-roll-RawElement Leaves Leaves Leaves element_step branch_step log_step (RawElement-F.Filter ref)

pub leaves_rewrite : (ref : RawRef) → element_leaves (e.Rewrite ref) ≡ Leaf.reference kind.Rewrite ref ∷ []
unfolding element_leaves
leaves_rewrite ref = ap element_leaves (sym (rolls-Rewrite ref)) ∙ fold-roll-RawElement Leaves Leaves Leaves element_step branch_step log_step (RawElement-F.Rewrite ref)

pub leaves_parser : (ref : RawRef) → element_leaves (e.Parser ref) ≡ Leaf.reference kind.Parser ref ∷ []
unfolding element_leaves
leaves_parser ref = ap element_leaves (sym (rolls-Parser ref)) ∙ fold-roll-RawElement Leaves Leaves Leaves element_step branch_step log_step (RawElement-F.Parser ref)

pub leaves_junction : (channels : List RawLog) → element_leaves (e.Junction channels) ≡ flat_map log_leaves channels
unfolding element_leaves log_leaves
leaves_junction channels = ap element_leaves (sym (rolls-Junction channels)) ∙ fold-roll-RawElement Leaves Leaves Leaves element_step branch_step log_step (RawElement-F.Junction channels) ∙ flat_map-map _ _ channels

pub leaves_if : (branches : List RawBranch) (other : Option (List RawElement)) → element_leaves (e.If branches other) ≡ flat_map branch_leaves branches ++ other_leaves other
unfolding element_leaves branch_leaves
leaves_if branches None = ap element_leaves (sym (rolls-If branches None)) ∙ fold-roll-RawElement Leaves Leaves Leaves element_step branch_step log_step (RawElement-F.If branches None) ∙ ap (λ (p : Leaves). p ++ []) (flat_map-map _ _ branches)
leaves_if branches (Some other) = ap element_leaves (sym (rolls-If branches (Some other))) ∙ fold-roll-RawElement Leaves Leaves Leaves element_step branch_step log_step (RawElement-F.If branches (Some other)) ∙ (λ i. flat_map-map (λ (p : Leaves). p) branch_leaves branches i ++ flat_map-map (λ (p : Leaves). p) element_leaves other i)

pub leaves_log : (log : RawLog) → log_leaves log ≡ (flat_map element_leaves (out-RawLog log).elements ++ flat_map log_leaves (out-RawLog log).embedded) ++ Leaf.flags (out-RawLog log).flags ∷ []
unfolding element_leaves log_leaves
leaves_log log = fold_out-RawLog Leaves Leaves Leaves element_step branch_step log_step log ∙ (λ i. (flat_map-map (λ (p : Leaves). p) element_leaves (out-RawLog log).elements i ++ flat_map-map (λ (p : Leaves). p) log_leaves (out-RawLog log).embedded i) ++ Leaf.flags (out-RawLog log).flags ∷ [])

pub leaves_branch : (branch : RawBranch) → branch_leaves branch ≡ Leaf.test (out-RawBranch branch).test ∷ flat_map element_leaves (out-RawBranch branch).elements
unfolding element_leaves branch_leaves
leaves_branch branch = fold_out-RawBranch Leaves Leaves Leaves element_step branch_step log_step branch ∙ (λ i. Leaf.test (out-RawBranch branch).test ∷ flat_map-map (λ (p : Leaves). p) element_leaves (out-RawBranch branch).elements i)
