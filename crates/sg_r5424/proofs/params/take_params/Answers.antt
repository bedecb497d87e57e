use Rattle.std.proofs.Common.{◌≡◌, ◌≤◌, ℕ, List, [], ◌∷◌, ◌++◌, length, arith, ap, subst, sym, ◌∙◌}
use Rattle.sg_msg.specs.Build.{Build}
use Rattle.sg_r5424.specs.Data.{IsParam, param_pair}
use Rattle.sg_r5424.specs.Spans.{span_text, param_said, IsWithin, IsParamWithin, EndsItem}
use Rattle.sg_r5424.proofs.ParamLemmas.{param_shorter, so_far_more, so_far_end, so_far_stuck}
use Rattle.sg_r5424.proofs.EndLemmas.{ends-param}
use Rattle.sg_r5424.proofs.params.take_params.Goals as goal

pub returns-then-take_text : goal.returns-then-take_text
returns-then-take_text c =
    let before = c.args.builder.now in
    let item = before.item in
    let id = span_text item c.args.id in
    so_far_end id c.args.text.now before c.params.text c.params.builder c.take_text.new.text c.params.invariant.1 c.if-take_text.ensures.taken

pub returns-in_default : goal.returns-in_default
returns-in_default c =
    let before = c.args.builder.now in
    let item = before.item in
    let id = span_text item c.args.id in
    let kept = c.if-take_text.ensures.kept in
    let ends = subst (EndsItem item) (sym kept) c.params.invariant.0 in
    let tried = rw c.in_default.is at c.in_ok-param.ensures.param in
    let never = tried item c.requires.ends.1 ends in
    let left = never.1 in
    let so_far = c.params.invariant.1.shorter in (
      so_far_stuck id c.args.text.now before c.params.text c.params.builder c.params.invariant.1 c.if-take_text.ensures.taken
          (λ param rest h. never.0 param rest (subst (λ (x : List ℕ). IsParam x param rest) (sym kept) h)),
      omega (arith, left, so_far, c.take_text.ensures.shorter),
    )

pub params-preserved : goal.params-preserved
params-preserved c =
    let before = c.args.builder.now in
    let item = before.item in
    let id = span_text item c.args.id in
    let kept = c.if-take_text.ensures.kept in
    let ends = subst (EndsItem item) (sym kept) c.params.invariant.0 in
    let same : c.params.builder.item ≡ c.args.builder.now.item = ap (λ (b : Build). b.item) c.params.invariant.1.set in
    let tried = rw c.in-Some.is at c.in_ok-param.ensures.param in
    let first = tried item c.requires.ends.1 ends in
    let param = c.in-Some.param in
    let put = c.in_ok-put_param.ensures ∙ ap (λ (i : List ℕ). record c.params.builder { put = c.params.builder.put ++ param_pair (span_text i c.args.id) (param_said i param) ∷ [] }) same in
    let one = subst (λ (x : List ℕ). IsParam x (param_said item param) c.take_param.new.text) kept first.0 in (
      ends-param item c.params.text (param_said item param) c.take_param.new.text one c.params.invariant.0,
      so_far_more id c.args.text.now before c.params.text c.params.builder (param_said item param) c.take_param.new.text c.put_param.new.builder c.params.invariant.1 one put,
    )

pub take_param-requires : goal.take_param-requires
take_param-requires c = omega (arith, c.params.invariant.0.shorter, c.requires.ends.1, c.take_text.ensures.shorter)

pub put_param-requires-clause-id : goal.put_param-requires-clause-id
put_param-requires-clause-id c =
    let same : c.params.builder.item ≡ c.args.builder.now.item = ap (λ (b : Build). b.item) c.params.invariant.1.set in
    subst (λ (n : ℕ). IsWithin n c.args.id) (sym (ap length same ∙ c.requires.ends.1)) c.requires.id

pub put_param-requires-clause-short : goal.put_param-requires-clause-short
put_param-requires-clause-short c =
    let same : c.params.builder.item ≡ c.args.builder.now.item = ap (λ (b : Build). b.item) c.params.invariant.1.set in
    subst (λ (i : List ℕ). length (span_text i c.args.id) ≤ 32) (sym same) c.requires.short

pub put_param-requires-clause-param : goal.put_param-requires-clause-param
put_param-requires-clause-param c =
    let same : c.params.builder.item ≡ c.args.builder.now.item = ap (λ (b : Build). b.item) c.params.invariant.1.set in
    let within = rw c.in-Some.is at c.in_ok-param.ensures.within in
    subst (λ (n : ℕ). IsParamWithin n c.in-Some.param) (sym (ap length same ∙ c.requires.ends.1)) within

pub put_param-requires-clause-name : goal.put_param-requires-clause-name
put_param-requires-clause-name c =
    let before = c.args.builder.now in
    let item = before.item in
    let id = span_text item c.args.id in
    let kept = c.if-take_text.ensures.kept in
    let ends = subst (EndsItem item) (sym kept) c.params.invariant.0 in
    let same : c.params.builder.item ≡ c.args.builder.now.item = ap (λ (b : Build). b.item) c.params.invariant.1.set in
    let tried = rw c.in-Some.is at c.in_ok-param.ensures.param in
    let first = tried item c.requires.ends.1 ends in
    subst (λ (i : List ℕ). length (span_text i c.in-Some.param.name) ≤ 32) (sym same) first.0.name.most

pub params-smaller : goal.params-smaller
params-smaller c =
    let before = c.args.builder.now in
    let item = before.item in
    let kept = c.if-take_text.ensures.kept in
    let ends = subst (EndsItem item) (sym kept) c.params.invariant.0 in
    let tried = rw c.in-Some.is at c.in_ok-param.ensures.param in
    let first = tried item c.requires.ends.1 ends in
    let one = subst (λ (x : List ℕ). IsParam x (param_said item c.in-Some.param) c.take_param.new.text) kept first.0 in
    param_shorter c.params.text (param_said item c.in-Some.param) c.take_param.new.text one
