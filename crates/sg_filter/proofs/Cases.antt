-- What a turn does with each kind of frame.
use Rattle.std.proofs.Common.{◌≡◌, ℕ, ◌+◌, List, [], ◌∷◌, ◌++◌, map, length, Bor, refl, sym, ap, ◌∙◌, subst, arith}
use Rattle.std.proofs.lemmas.List.{append-nil, append_assoc}
use Rattle.sg_outside.specs.World.{WorldState}
use Rattle.sg_pattern.specs.Builds.{RefusesText}
use Rattle.sg_pattern.specs.declared.text.PatternText.{PatternText}
use Rattle.sg_pattern.specs.declared.text.BuildRefusal.{BuildRefusal}
use Rattle.sg_pattern.specs.declared.text.BuildRefusal.TheVariants.{BadPattern, TooLarge, NoMemory}
use Rattle.sg_filter.specs.declared.check.Predicate.{Predicate}
use Rattle.sg_filter.specs.declared.expr.Expr.{Expr}
use Rattle.sg_filter.specs.declared.expr.Expr.TheVariants as e
use Rattle.sg_filter.specs.declared.work.CompileFrame.{CompileFrame}
use Rattle.sg_filter.specs.declared.work.CompileFrame.TheVariants as frame
use Rattle.sg_filter.specs.declared.work.CompileWork.{CompileWork}
use Rattle.sg_filter.specs.Decisions.{Fork, ask, forks, no_fork, all_fork, any_fork}
use Rattle.sg_filter.specs.Patterns.{joined, patterns_within, AreValid, RefusesAny}
use Rattle.sg_filter.specs.Table.{decision_at}
use Rattle.sg_filter.specs.Work.{TurnsFrame}
use Rattle.sg_filter.proofs.Equations.{forks-And, forks-Or, forks-Not, patterns-And, patterns-Or, patterns-Not}
use Rattle.sg_filter.proofs.Turning.{comes-pushed, comes-asked, all-last, any-last, map-last}

joined-last : (ps : List (List PatternText)) (p : List PatternText) → joined (ps ++ p ∷ []) ≡ joined ps ++ (p ++ [])
joined-last [] p = refl
joined-last (q ∷ ps) p = ap (λ (r : List PatternText). q ++ r) (joined-last ps p) ∙ sym (append_assoc q (joined ps) (p ++ []))

module _ (named : List Expr) where
  pub turns-as : (f g : CompileFrame) (old new : CompileWork) → f ≡ g → TurnsFrame named f old new → TurnsFrame named g old new
  turns-as f g old new is t = subst (λ (x : CompileFrame). TurnsFrame named x old new) is t

  module _ (expr : Bor Expr) (depth pass fail : ℕ) (old new : CompileWork) where
    pub turns-check : (check : Predicate) (ps : List PatternText) → forks depth named expr.now ≡ ask check → patterns_within depth named expr.now ≡ ps → AreValid ps
        → new.nodes.items ≡ old.nodes.items ++ (record { check = check; yes = pass; no = fail }) ∷ [] → new.last ≡ length old.nodes.items + 2 → new.frames ≡ old.frames
        → TurnsFrame named (frame.One expr depth pass fail) old new
    turns-check check ps is ip valid en el ef =
        comes-asked named (forks depth named expr.now (decision_at old.nodes.items pass) (decision_at old.nodes.items fail)) (patterns_within depth named expr.now) _ old new check pass fail en el ef
        (λ h. h.0) (ap (λ (f : Fork). f (decision_at old.nodes.items pass) (decision_at old.nodes.items fail)) (sym is)) (subst AreValid (sym ip) valid)

    pub turns-none : forks depth named expr.now ≡ no_fork → patterns_within depth named expr.now ≡ []
        → new.nodes ≡ old.nodes → new.last ≡ fail → new.frames ≡ old.frames
        → TurnsFrame named (frame.One expr depth pass fail) old new
    turns-none is ip en el ef =
        comes-pushed named (forks depth named expr.now (decision_at old.nodes.items pass) (decision_at old.nodes.items fail)) (patterns_within depth named expr.now) _ old new []
        en (ap (λ v. v.items) ef ∙ sym (append-nil old.frames.items)) (λ h. (tt, omega (arith, el, h.0.1)))
        (ap (decision_at old.nodes.items) el ∙ ap (λ (f : Fork). f (decision_at old.nodes.items pass) (decision_at old.nodes.items fail)) (sym is)) ip

    pub turns-one : (x : Bor Expr) (next : ℕ) → forks depth named expr.now ≡ forks next named x.now → patterns_within depth named expr.now ≡ patterns_within next named x.now
        → new.nodes ≡ old.nodes → new.last ≡ fail → new.frames.items ≡ old.frames.items ++ frame.One x next pass fail ∷ []
        → TurnsFrame named (frame.One expr depth pass fail) old new
    turns-one x next is ip en el ef =
        comes-pushed named (forks depth named expr.now (decision_at old.nodes.items pass) (decision_at old.nodes.items fail)) (patterns_within depth named expr.now) _ old new (frame.One x next pass fail ∷ [])
        en ef (λ h. ((h.0, tt), omega (arith, el, h.0.1)))
        (ap (λ (f : Fork). f (decision_at old.nodes.items pass) (decision_at old.nodes.items fail)) (sym is)) (ip ∙ sym (append-nil (patterns_within next named x.now)))

    pub turns-not : (x : Bor Expr) → expr.now ≡ e.Not x.now
        → new.nodes ≡ old.nodes → new.last ≡ old.last → new.frames.items ≡ old.frames.items ++ frame.One x depth fail pass ∷ []
        → TurnsFrame named (frame.One expr depth pass fail) old new
    turns-not x is en el ef =
        comes-pushed named (forks depth named expr.now (decision_at old.nodes.items pass) (decision_at old.nodes.items fail)) (patterns_within depth named expr.now) _ old new (frame.One x depth fail pass ∷ [])
        en ef (λ h. (((h.0.1, h.0.0), tt), omega (arith, el, h.1)))
        (ap (λ (f : Fork). f (decision_at old.nodes.items pass) (decision_at old.nodes.items fail)) (sym (ap (forks depth named) is ∙ forks-Not depth named x.now)))
        (ap (patterns_within depth named) is ∙ patterns-Not depth named x.now ∙ sym (append-nil (patterns_within depth named x.now)))

    pub turns-and : (x : Bor (List Expr)) → expr.now ≡ e.And x.now
        → new.nodes ≡ old.nodes → new.last ≡ pass → new.frames.items ≡ old.frames.items ++ frame.All x depth fail ∷ []
        → TurnsFrame named (frame.One expr depth pass fail) old new
    turns-and x is en el ef =
        comes-pushed named (forks depth named expr.now (decision_at old.nodes.items pass) (decision_at old.nodes.items fail)) (patterns_within depth named expr.now) _ old new (frame.All x depth fail ∷ [])
        en ef (λ h. ((h.0.1, tt), omega (arith, el, h.0.0)))
        (ap (λ (k : ℕ). all_fork (map (forks depth named) x.now) (decision_at old.nodes.items k) (decision_at old.nodes.items fail)) el
        ∙ ap (λ (f : Fork). f (decision_at old.nodes.items pass) (decision_at old.nodes.items fail)) (sym (ap (forks depth named) is ∙ forks-And depth named x.now)))
        (ap (patterns_within depth named) is ∙ patterns-And depth named x.now ∙ sym (append-nil (joined (map (patterns_within depth named) x.now))))

    pub turns-or : (x : Bor (List Expr)) → expr.now ≡ e.Or x.now
        → new.nodes ≡ old.nodes → new.last ≡ fail → new.frames.items ≡ old.frames.items ++ frame.Any x depth pass ∷ []
        → TurnsFrame named (frame.One expr depth pass fail) old new
    turns-or x is en el ef =
        comes-pushed named (forks depth named expr.now (decision_at old.nodes.items pass) (decision_at old.nodes.items fail)) (patterns_within depth named expr.now) _ old new (frame.Any x depth pass ∷ [])
        en ef (λ h. ((h.0.0, tt), omega (arith, el, h.0.1)))
        (ap (λ (k : ℕ). any_fork (map (forks depth named) x.now) (decision_at old.nodes.items pass) (decision_at old.nodes.items k)) el
        ∙ ap (λ (f : Fork). f (decision_at old.nodes.items pass) (decision_at old.nodes.items fail)) (sym (ap (forks depth named) is ∙ forks-Or depth named x.now)))
        (ap (patterns_within depth named) is ∙ patterns-Or depth named x.now ∙ sym (append-nil (joined (map (patterns_within depth named) x.now))))

  module _ (terms : Bor (List Expr)) (depth other : ℕ) (old new : CompileWork) where
    pub turns-all-none : terms.now ≡ [] → new ≡ old → TurnsFrame named (frame.All terms depth other) old new
    turns-all-none is same =
        comes-pushed named (all_fork (map (forks depth named) terms.now) (decision_at old.nodes.items old.last) (decision_at old.nodes.items other)) (joined (map (patterns_within depth named) terms.now)) _ old new []
        (ap (λ w. w.nodes) same) (ap (λ w. w.frames.items) same ∙ sym (append-nil old.frames.items)) (λ h. (tt, omega (arith, h.1, ap (λ w. w.last) same)))
        (ap (λ w. decision_at old.nodes.items w.last) same ∙ ap (λ (ts : List Expr). all_fork (map (forks depth named) ts) (decision_at old.nodes.items old.last) (decision_at old.nodes.items other)) (sym is))
        (ap (λ (ts : List Expr). joined (map (patterns_within depth named) ts)) is)

    pub turns-any-none : terms.now ≡ [] → new ≡ old → TurnsFrame named (frame.Any terms depth other) old new
    turns-any-none is same =
        comes-pushed named (any_fork (map (forks depth named) terms.now) (decision_at old.nodes.items other) (decision_at old.nodes.items old.last)) (joined (map (patterns_within depth named) terms.now)) _ old new []
        (ap (λ w. w.nodes) same) (ap (λ w. w.frames.items) same ∙ sym (append-nil old.frames.items)) (λ h. (tt, omega (arith, h.1, ap (λ w. w.last) same)))
        (ap (λ w. decision_at old.nodes.items w.last) same ∙ ap (λ (ts : List Expr). any_fork (map (forks depth named) ts) (decision_at old.nodes.items other) (decision_at old.nodes.items old.last)) (sym is))
        (ap (λ (ts : List Expr). joined (map (patterns_within depth named) ts)) is)

    front-patterns : (front : List Expr) (x : Expr) → terms.now ≡ front ++ x ∷ []
        → joined (map (patterns_within depth named) terms.now) ≡ joined (map (patterns_within depth named) front) ++ (patterns_within depth named x ++ [])
    front-patterns front x is =
        ap (λ (ts : List Expr). joined (map (patterns_within depth named) ts)) is ∙ ap joined (map-last (patterns_within depth named) front x)
        ∙ joined-last (map (patterns_within depth named) front) (patterns_within depth named x)

    pub turns-all : (front : Bor (List Expr)) (x : Bor Expr) → terms.now ≡ front.now ++ x.now ∷ []
        → new.nodes ≡ old.nodes → new.last ≡ old.last → new.frames.items ≡ old.frames.items ++ frame.All front depth other ∷ frame.One x depth old.last other ∷ []
        → TurnsFrame named (frame.All terms depth other) old new
    turns-all front x is en el ef =
        comes-pushed named (all_fork (map (forks depth named) terms.now) (decision_at old.nodes.items old.last) (decision_at old.nodes.items other)) (joined (map (patterns_within depth named) terms.now)) _ old new
        (frame.All front depth other ∷ frame.One x depth old.last other ∷ [])
        en ef (λ h. ((h.0, ((h.1, h.0), tt)), omega (arith, h.1, el)))
        (sym (ap (λ (fs : List Fork). all_fork fs (decision_at old.nodes.items old.last) (decision_at old.nodes.items other)) (ap (map (forks depth named)) is ∙ map-last (forks depth named) front.now x.now)
        ∙ all-last (map (forks depth named) front.now) (forks depth named x.now) (decision_at old.nodes.items old.last) (decision_at old.nodes.items other)))
        (front-patterns front.now x.now is)

    pub turns-any : (front : Bor (List Expr)) (x : Bor Expr) → terms.now ≡ front.now ++ x.now ∷ []
        → new.nodes ≡ old.nodes → new.last ≡ old.last → new.frames.items ≡ old.frames.items ++ frame.Any front depth other ∷ frame.One x depth other old.last ∷ []
        → TurnsFrame named (frame.Any terms depth other) old new
    turns-any front x is en el ef =
        comes-pushed named (any_fork (map (forks depth named) terms.now) (decision_at old.nodes.items other) (decision_at old.nodes.items old.last)) (joined (map (patterns_within depth named) terms.now)) _ old new
        (frame.Any front depth other ∷ frame.One x depth other old.last ∷ [])
        en ef (λ h. ((h.0, ((h.0, h.1), tt)), omega (arith, h.1, el)))
        (sym (ap (λ (fs : List Fork). any_fork fs (decision_at old.nodes.items other) (decision_at old.nodes.items old.last)) (ap (map (forks depth named)) is ∙ map-last (forks depth named) front.now x.now)
        ∙ any-last (map (forks depth named) front.now) (forks depth named x.now) (decision_at old.nodes.items other) (decision_at old.nodes.items old.last)))
        (front-patterns front.now x.now is)

-- the only pattern of a frame
pub refuses-one : (old new : WorldState) (p : PatternText) (patterns : List PatternText) (why : BuildRefusal) → patterns ≡ p ∷ [] → RefusesText old new p why → RefusesAny old new patterns why
refuses-one old new p patterns (BadPattern line) is r = record { one = p; among = record { before = []; after = []; is = is }; at = sym r.0; bad = r.1 }
refuses-one old new p patterns (TooLarge line) is r = record { one = p; among = record { before = []; after = []; is = is }; at = sym r.0; is_regex = r.1; rose = r.2 }
refuses-one old new p patterns NoMemory is r = tt
