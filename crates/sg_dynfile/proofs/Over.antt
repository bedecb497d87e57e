-- What an opener does, as what an outlet over it does.
use Rattle.std.proofs.Common.{◌≡◌, ◌<◌, ℕ, ◌+◌, ◌-◌, List, [], ◌++◌, length, take, refl, sym, ap, ◌∙◌, arith, subst}
use Rattle.std.specs.Prelude.{map, Option, Some, None, Result, Ok, Err}
use Rattle.std.specs.Option.{option_map}
use Rattle.std.proofs.lemmas.List.{map-append, take-map, length-map}
use Rattle.sg_device.specs.Outlet.{OutletState, TakesFirst, Sends, Refuses, Reopens}
use Rattle.sg_device.specs.Paths.{PathsState, PathText, PathReopens, counts_of}
use Rattle.sg_by_path.specs.Each.{SendsEach, under_places}
use Rattle.sg_device.specs.declared.fault.OutletFault.{OutletFault}
use Rattle.sg_device.specs.declared.outlet.Reopened.{Reopened}
use Rattle.sg_device.specs.declared.outlet.Reopened.TheVariants.{Ready, Later as ReopenLater}
use Rattle.sg_device.specs.declared.fault.SendRefusal.{SendRefusal}
use Rattle.sg_device.specs.declared.fault.SendRefusal.TheVariants.{Fault, Later, NoMemory}
use Rattle.sg_dynfile.specs.Texts.{parted, frame_for, outlet_over, AreWhole, AreParted}
use Rattle.sg_dynfile.proofs.Composed.{behind-none}

-- these frames are those of the texts, each under its path
pub record AreOf (texts : List PathText) (frames : List (List ℕ)) : Type 0 where
  pub parts : map parted frames ≡ texts
  pub whole : AreWhole frames

pub as-many : (parts : List PathText) (frames : List (List ℕ)) → AreOf parts frames → length frames ≡ length parts
as-many parts frames of = sym (length-map frames parted) ∙ ap (λ (l : List PathText). length l) of.parts

-- the first texts are those of the first frames
first-parts : (parts : List PathText) (frames : List (List ℕ)) (k : ℕ) → AreOf parts frames → take k parts ≡ map parted (take k frames)
first-parts parts frames k of = ap (λ (l : List PathText). take k l) (sym of.parts) ∙ take-map parted k frames

first-whole : (frames : List (List ℕ)) (k : ℕ) → AreWhole frames → map frame_for (map parted (take k frames)) ≡ take k frames
first-whole frames k whole =
    ap (λ (l : List PathText). map frame_for l) (sym (take-map parted k frames))
    ∙ sym (take-map frame_for k (map parted frames))
    ∙ ap (λ (l : List (List ℕ)). take k l) whole

frames-behind : (parts : List PathText) (frames : List (List ℕ)) (k : ℕ) → AreOf parts frames → (taken : Option (List PathText))
    → option_map (map frame_for) (option_map (λ before. before ++ take k parts) taken) ≡ option_map (λ before. before ++ take k frames) (option_map (map frame_for) taken)
frames-behind parts frames k of None = refl
frames-behind parts frames k of (Some before) =
    ap (λ (l : List (List ℕ)). Some l)
    (map-append frame_for before (take k parts)
    ∙ ap (λ (l : List PathText). map frame_for before ++ map frame_for l) (first-parts parts frames k of)
    ∙ ap (λ (l : List (List ℕ)). map frame_for before ++ l) (first-whole frames k of.whole))

-- so many of the texts were taken
first-over : (parts : List PathText) (texts frames : List (List ℕ)) (k : ℕ) (old new : PathsState) → AreOf parts frames
    → new.taken ≡ option_map (λ before. before ++ take (new.count - old.count) parts) old.taken
    → TakesFirst k texts (counts_of old) (counts_of new) → TakesFirst k frames (outlet_over old) (outlet_over new)
first-over parts texts frames k old new of taken h =
    let many : new.count - old.count ≡ k = omega (arith, h.count) in
    record {
      taken =
          ap (λ (t : Option (List PathText)). option_map (map frame_for) t) taken
          ∙ ap (λ (n : ℕ). option_map (map frame_for) (option_map (λ before. before ++ take n parts) old.taken)) many
          ∙ frames-behind parts frames k of old.taken;
      count = h.count;
      laters = h.laters;
      faults = h.faults;
    }

-- a send of the texts is one of the frames
pub sends-over : (places : List ℕ) (texts frames : List (List ℕ)) (old new : PathsState) (answer : Result Unit SendRefusal)
    → AreOf (under_places old.opened places texts) frames → length frames ≡ length texts → SendsEach places texts old new answer → Sends (outlet_over old) (outlet_over new) frames answer
sends-over places texts frames old new (Ok done) of many h = (
  subst (λ (n : ℕ). TakesFirst n frames (outlet_over old) (outlet_over new)) (sym many) (first-over (under_places old.opened places texts) texts frames (length texts) old new of h.taken h.sends.0),
  h.sends.1,
)
sends-over places texts frames old new (Err Fault) of many h =
    let s = h.sends.0 in
    ((s.0, omega (arith, s.1, many), first-over (under_places old.opened places texts) texts frames s.0 old new of h.taken s.2, s.3), h.sends.1)
sends-over places texts frames old new (Err Later) of many h =
    let s = h.sends in
    (s.0, omega (arith, s.1, many), first-over (under_places old.opened places texts) texts frames s.0 (record old { laters = old.laters + 1 }) new of h.taken s.2, s.3, s.4)
sends-over places texts frames old new (Err NoMemory) of many h =
    let s = h.sends in
    (s.0, omega (arith, s.1, many), first-over (under_places old.opened places texts) texts frames s.0 old new of h.taken s.2, s.3)

-- and the texts stay those of their frames
pub parted-over : (places : List ℕ) (texts frames : List (List ℕ)) (old new : PathsState) (answer : Result Unit SendRefusal)
    → AreOf (under_places old.opened places texts) frames → SendsEach places texts old new answer → AreParted old.taken → AreParted new.taken
parted-over places texts frames old new answer of h parts = subst AreParted (sym h.taken) (by-taken old.taken parts)
  where
    k : ℕ
    k = new.count - old.count

    all : List PathText
    all = under_places old.opened places texts

    by-taken : (taken : Option (List PathText)) → AreParted taken → AreParted (option_map (λ before. before ++ take k all) taken)
    by-taken None is = is
    by-taken (Some before) is =
        let first = first-parts all frames k of in
        let more : map parted (map frame_for (take k all)) ≡ take k all =
        ap (λ (l : List PathText). map parted (map frame_for l)) first
        ∙ ap (λ (l : List (List ℕ)). map parted l) (first-whole frames k of.whole)
        ∙ sym first in
        ap (λ (l : List (List ℕ)). map parted l) (map-append frame_for before (take k all))
        ∙ map-append parted (map frame_for before) (map frame_for (take k all))
        ∙ ap (λ (l : List PathText). l ++ map parted (map frame_for (take k all))) is
        ∙ ap (λ (l : List PathText). before ++ l) more

-- a file wasn't opened for the next frames
first-none : (texts : List (List ℕ)) (a b : OutletState) → TakesFirst 0 [] a b → TakesFirst 0 texts a b
first-none texts a b h = record { taken = h.taken; count = h.count; laters = h.laters; faults = h.faults }

first-same : (texts : List (List ℕ)) (s : OutletState) → TakesFirst 0 texts s s
first-same texts s = record { taken = behind-none s.taken; count = omega arith; laters = refl; faults = omega arith }

pub refuses-sends : (texts : List (List ℕ)) (a b : OutletState) (refusal : SendRefusal) → 0 < length texts → Refuses a b refusal → Sends a b texts (Err refusal)
refuses-sends texts a b Fault some h = ((0, some, first-none texts a b h.0, h.1), h.2)
refuses-sends texts a b Later some h =
    let early : OutletState = record a { laters = a.laters + 1 } in
    (0, some, subst (λ (s : OutletState). TakesFirst 0 texts early s) (sym h) (first-same texts early), ap (λ (s : OutletState). s.faults) h, ap (λ (s : OutletState). s.failing) h)
refuses-sends texts a b NoMemory some h =
    (0, some, subst (λ (s : OutletState). TakesFirst 0 texts a s) (sym h) (first-same texts a), ap (λ (s : OutletState). s.failing) h)

-- a reopening is one of the outlet
first-reopens : (old new : PathsState) → new.taken ≡ old.taken → TakesFirst 0 [] (counts_of old) (counts_of new) → TakesFirst 0 [] (outlet_over old) (outlet_over new)
first-reopens old new kept h = record {
  taken = ap (λ (t : Option (List PathText)). option_map (map frame_for) t) kept ∙ behind-none (option_map (map frame_for) old.taken);
  count = h.count;
  laters = h.laters;
  faults = h.faults;
}

pub reopens-over : (old new : PathsState) (answer : Result Reopened OutletFault) → PathReopens old new answer → Reopens (outlet_over old) (outlet_over new) answer
reopens-over old new (Ok Ready) h = (first-reopens old new h.keeps.taken h.reopens.0, h.reopens.1)
reopens-over old new (Ok ReopenLater) h =
    ap (λ (s : OutletState). record s { taken = option_map (map frame_for) new.taken }) h.reopens
    ∙ ap (λ (t : Option (List PathText)). record (outlet_over old) { taken = option_map (map frame_for) t; laters = old.laters + 1 }) h.keeps.taken
reopens-over old new (Err fault) h = (first-reopens old new h.keeps.taken h.reopens.0, h.reopens.1, h.reopens.2)

-- a refusal to open a file too
pub refuses-over : (old new : PathsState) (refusal : SendRefusal) → new.taken ≡ old.taken → Refuses (counts_of old) (counts_of new) refusal → Refuses (outlet_over old) (outlet_over new) refusal
refuses-over old new Fault kept h = (first-reopens old new kept h.0, h.1, h.2)
refuses-over old new Later kept h =
    ap (λ (s : OutletState). record s { taken = option_map (map frame_for) new.taken }) h
    ∙ ap (λ (t : Option (List PathText)). record (outlet_over old) { taken = option_map (map frame_for) t; laters = old.laters + 1 }) kept
refuses-over old new NoMemory kept h =
    ap (λ (s : OutletState). record s { taken = option_map (map frame_for) new.taken }) h
    ∙ ap (λ (t : Option (List PathText)). record (outlet_over old) { taken = option_map (map frame_for) t }) kept
