-- Files that are opened and closed on the way.
use Rattle.std.proofs.Common.{◌≡◌, ℕ, List, [], ◌∷◌, ◌++◌, length, refl, sym, ap, ◌∙◌, subst}
use Rattle.std.specs.Prelude.{Ok, Err}
use Rattle.sg_device.specs.Outlet.{OutletState, Refuses}
use Rattle.sg_device.specs.Paths.{PathsState, KeepsPaths, counts_of}
use Rattle.sg_device.specs.declared.fault.SendRefusal.{SendRefusal}
use Rattle.sg_device.specs.declared.fault.SendRefusal.TheVariants.{NoMemory}
use Rattle.sg_dynfile.proofs.Names.{stands-last}
use Rattle.sg_dynfile.specs.Texts.{outlet_over, AreParted}
use Rattle.sg_dynfile.specs.Tracks.{OnlyOpens, MakesOpen, StandsAt}

-- an opener that only opened and closed files is the same outlet
pub opens-over : (old new : PathsState) → OnlyOpens old new → outlet_over new ≡ outlet_over old
opens-over old new is = ap outlet_over is

pub opens-parted : (old new : PathsState) → OnlyOpens old new → AreParted old.taken → AreParted new.taken
opens-parted old new is parts = subst AreParted (sym (ap (λ (s : PathsState). s.taken) is)) parts

-- an opener that stayed as it was
pub opens-none : (old new : PathsState) → new ≡ old → OnlyOpens old new
opens-none old new is = subst (λ (s : PathsState). s ≡ record old { opened = s.opened }) (sym is) refl

-- two times
pub opens-two : (old mid new : PathsState) → OnlyOpens old mid → OnlyOpens mid new → OnlyOpens old new
opens-two old mid new one two = two ∙ ap (λ (s : PathsState). record s { opened = new.opened }) one

pub makes-ok : (old mid new : PathsState) (path : List ℕ) (place : ℕ) → OnlyOpens old mid → new ≡ record mid { opened = mid.opened ++ path ∷ [] } → place ≡ length mid.opened → MakesOpen old new path (Ok place)
makes-ok old mid new path place one is last =
    let names : mid.opened ++ path ∷ [] ≡ new.opened = sym (ap (λ (s : PathsState). s.opened) is) in (
      opens-two old mid new one (is ∙ ap (λ (l : List (List ℕ)). record mid { opened = l }) names),
      subst (λ (n : ℕ). StandsAt path new.opened n) (sym last) (subst (λ (l : List (List ℕ)). StandsAt path l (length mid.opened)) names (stands-last mid.opened path)),
    )

pub makes-none : (old mid : PathsState) (path : List ℕ) → OnlyOpens old mid → MakesOpen old mid path (Err NoMemory)
makes-none old mid path one = (ap (λ (s : PathsState). s.taken) one, ap counts_of one)

pub makes-err : (old mid new : PathsState) (path : List ℕ) (refusal : SendRefusal) → OnlyOpens old mid → KeepsPaths mid new → Refuses (counts_of mid) (counts_of new) refusal → MakesOpen old new path (Err refusal)
makes-err old mid new path refusal one keeps h =
    (keeps.taken ∙ ap (λ (s : PathsState). s.taken) one, subst (λ (s : OutletState). Refuses s (counts_of new) refusal) (ap counts_of one) h)
