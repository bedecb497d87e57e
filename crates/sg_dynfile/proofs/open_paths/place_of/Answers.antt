use Rattle.std.proofs.Common.{◌≡◌, ◌<◌, ◌∙◌, [], length, get_or, true, false, bytes_eq, ap, sym, List, ℕ, rules}
use Rattle.std.proofs.lemmas.List.{get_or_default}
use Rattle.sg_dynfile.proofs.Names.{found, other-more}
use Rattle.sg_device.proofs.PathLemmas.{without-other}
use Rattle.sg_dynfile.proofs.open_paths.place_of.Goals as goal

pub returns-then-is_same : goal.returns-then-is_same
returns-then-is_same c =
    let names = c.args.names.now in
    let path = c.args.path.now in
    let i = c.loop-i.i in
    let inside : i < length names = search rules in
    let there : get_or names i [] ≡ c.bytes.result.now = get_or_default names i [] c.index-names-i.result inside ∙ sym c.index-names-i.is ∙ sym c.bytes.ensures in
    let same : bytes_eq (get_or names i []) path ≡ true = ap (λ (l : List ℕ). bytes_eq l path) there ∙ sym c.is_same.ensures ∙ c.if-is_same.true in
    found path names i c.loop-i.invariant.before inside same

pub loop-i-preserved : goal.loop-i-preserved
loop-i-preserved c =
    let names = c.args.names.now in
    let path = c.args.path.now in
    let i = c.loop-i.i in
    let inside : i < length names = search rules in
    let there : get_or names i [] ≡ c.bytes.result.now = get_or_default names i [] c.index-names-i.result inside ∙ sym c.index-names-i.is ∙ sym c.bytes.ensures in
    let differs : bytes_eq (get_or names i []) path ≡ false = ap (λ (l : List ℕ). bytes_eq l path) there ∙ sym c.is_same.ensures ∙ c.if-is_same.false in
    record {
      before = c.loop-i.invariant.before ∙ without-other path names i inside differs;
      other = other-more path names i c.loop-i.invariant.other inside differs;
    }
