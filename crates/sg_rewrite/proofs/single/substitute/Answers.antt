use Rattle.std.proofs.Common.{◌≡◌, ℕ, ◌<◌, List, length, None, Some, ap, ap₂, ◌∙◌, arith}
use Rattle.std.proofs.lemmas.Bool.Decides.{nat_tests}
use Rattle.sg_msg.specs.Message.{value_of}
use Rattle.sg_template.specs.declared.env.Env.{Env}
use Rattle.sg_template.specs.Render.{render_of}
use Rattle.sg_pattern.specs.Pattern.{spans_of}
use Rattle.sg_rewrite.specs.Values.{cut, with_value, text_over, replaced}
use Rattle.sg_rewrite.proofs.Found.{found}
use Rattle.sg_rewrite.proofs.single.substitute.Goals as goal

pub returns-clause-ok : goal.returns-clause-ok
returns-clause-ok c =
    let search = c.args.search.now in
    let content = c.args.message.now in
    let spans = c.in_ok-spans.spans.items in
    let bytes = c.in-Some.bytes.now in
    let name_is : c.as_slice-name.result.now ≡ search.name = c.as_slice-name.ensures in
    let has : Some bytes ≡ value_of search.name content.pairs = rw (← name_is) c.in-Some.ensures in
    let are : spans ≡ spans_of search.matcher bytes = c.in_ok-spans.ensures.value in
    let some : 0 < length spans = grind (arith, nat_tests, c.is_empty.ensures, c.if-is_empty.false) in
    let text_is : c.deref-2.result.now ≡ text_over search.text None content =
    c.deref-2.ensures.value ∙ c.in_ok-render.ensures ∙ ap (λ (env : Env). render_of search.text content env) c.own_env.ensures in
    let spans_are : c.deref.result.now ≡ spans = c.deref.ensures.value in
    let value_is : c.replace.new.value.items ≡ cut (replaced spans bytes (text_over search.text None content) 0) =
    c.in_ok-replace.ensures ∙ ap₂ (λ (ss : List (ℕ × ℕ)) (text : List ℕ). cut (replaced ss bytes text 0)) spans_are text_is in
    let put_is : c.put.new.message ≡ with_value search.name c.replace.new.value.items content =
    c.in_ok-put.ensures.ok ∙ ap (λ (value : List ℕ). with_value search.name value content) c.deref-3.ensures.value in
    put_is ∙ found search content bytes spans c.replace.new.value.items has are some value_is
