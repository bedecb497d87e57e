-- The whole of the work.
use Rattle.std.proofs.Common.{◌≡◌, ℕ, Bool, true, false, List, [], ◌∷◌, ◌++◌, map, refl, sym, ap, ◌∙◌}
use Rattle.std.specs.Prelude.{cond, reverse}
use Rattle.sg_tree.specs.Walk.{WalkResult, sibling}
use Rattle.sg_tree.specs.Offers.{offered}
use Rattle.sg_table.specs.declared.pipe.Pipe.{Pipe}
use Rattle.sg_table.specs.declared.pipe.Top.{Top}
use Rattle.sg_table.specs.Table.{StepsByPlace, marks, siblings_of, branches_at}
use Rattle.sg_table.specs.Forest.{statement_at}
use Rattle.sg_pipes.specs.declared.work.WalkWork.{WalkWork}
use Rattle.sg_pipes.specs.Chosen.{is_for, branches_for}
use Rattle.sg_pipes.specs.Frames.{run}
use Rattle.sg_pipes.specs.Turns.{DeliversOffers, WorksWalk, now}

pub chosen-offered : (at : StepsByPlace) (inlet : ℕ) (tops : List Top) → siblings_of (branches_at at (branches_for inlet tops)) ≡ offered inlet (map (statement_at at) tops)
chosen-offered at inlet [] = refl
chosen-offered at inlet (t ∷ ts) = go (is_for inlet t) (chosen-offered at inlet ts)
  where
    go : (b : Bool) → siblings_of (branches_at at (branches_for inlet ts)) ≡ offered inlet (map (statement_at at) ts)
        → siblings_of (branches_at at (cond b (t.branch ∷ branches_for inlet ts) (branches_for inlet ts))) ≡ cond b (sibling (marks t.branch) (at t.branch.start) (offered inlet (map (statement_at at) ts))) (offered inlet (map (statement_at at) ts))
    go true h = ap (sibling (marks t.branch) (at t.branch.start)) h
    go false h = h

-- work that began with nothing waiting is done
pub done-is : (pipes : List Pipe) (made : WalkResult) (old mid new : WalkWork) → old.frames.items ≡ [] → DeliversOffers pipes made old mid → WorksWalk pipes mid new → (now new).deliveries ≡ made.deliveries
done-is pipes made old mid new e c w =
    ap (λ (x : WalkResult). x.deliveries) (sym w.done
    ∙ ap (λ x. run pipes x (reverse mid.frames.items) (now mid)) (ap (λ v. v.items) c.offered)
    ∙ ap (λ x. run pipes old.offered.items (reverse x) (now mid)) (c.frames ∙ ap (λ x. x ++ c.more) e))
    ∙ c.delivers
