use Rattle.std.proofs.Common.{◌≡◌, ◌∙◌, ◌+◌, ◌++◌, ℕ, List, take, drop, ap, sym, subst}
use Rattle.std.specs.List.{Contains}
use Rattle.std.proofs.lemmas.List.{get_or_default}
use Rattle.sg_device.specs.Paths.{PathsState, without_path}
use Rattle.sg_dynfile.specs.Tracks.{IsPlaceOf}
use Rattle.sg_dynfile.proofs.Names.{contains-removed}
use Rattle.sg_dynfile.proofs.sending.close_at.Goals as goal

pub returns-clause-none : goal.returns-clause-none
returns-clause-none g c = λ path is.
    let names = c.args.open_paths.now.names.items in
    let first = c.in-Some.first in
    let asked = c.bytes.result.now in
    let closed = c.bytes-2.result.now in
    let at : IsPlaceOf asked names first = subst (λ (l : List (List ℕ)). IsPlaceOf asked l first) c.deref.ensures.value c.in-Some.ensures in
    let same : closed ≡ asked = c.bytes-2.ensures ∙ c.index-2.ensures ∙ get_or_default names first c.index-2.result.now asked at.inside ∙ at.here in
    let opened : (g.P.Opener.state c.close.new.self).opened ≡ take first names ++ drop (first + 1) names =
    ap (λ (s : PathsState). s.opened) c.close.ensures
    ∙ ap (λ (l : List (List ℕ)). without_path closed l) c.requires.tracks.opened
    ∙ ap (λ (l : List ℕ). without_path l names) same
    ∙ at.without in
    subst (λ (l : List (List ℕ)). Contains l path) (sym c.requires.tracks.opened)
    (contains-removed first names path (subst (λ (l : List (List ℕ)). Contains l path) opened is))
