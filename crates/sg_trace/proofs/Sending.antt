-- What the destinations send.
use Rattle.std.proofs.Common.{◌≡◌, ◌∙◌, List, [], ◌∷◌, ◌++◌, map, sym, ap, append_assoc}
use Rattle.sg_run_plan.specs.declared.outlet.OutletPlan.{OutletPlan}
use Rattle.sg_trace.specs.declared.target.SentForm.{SentForm}
use Rattle.sg_trace.specs.Tracing.{target_of}

-- one destination more
pub targets-step : (all rest : List OutletPlan) (outlet : OutletPlan) (whole before after : List SentForm) → all ≡ outlet ∷ rest → whole ≡ before ++ map target_of all
    → after ≡ before ++ target_of outlet ∷ [] → whole ≡ after ++ map target_of rest
targets-step all rest outlet whole before after e so pushed =
    so ∙ (ap (λ (os : List OutletPlan). before ++ map target_of os) e ∙ (sym (append_assoc before (target_of outlet ∷ []) (map target_of rest)) ∙ ap (λ (ts : List SentForm). ts ++ map target_of rest) (sym pushed)))
