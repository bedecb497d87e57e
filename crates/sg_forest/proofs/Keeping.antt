-- Rewrites with whose values nothing is wrong are sound.
use Rattle.std.proofs.Common.{◌≡◌, ◌∙◌, ℕ, List, [], ◌∷◌, ◌++◌, length, Bool, true, false, Option, Some, None, refl, ap, subst, arith}
use Rattle.std.specs.Prelude.{cond, not, codes, bytes_eq, ◌&&◌, ◌||◌, ◌==◌, nat_lt, nat_le}
use Rattle.std.specs.List.{flat_map}
use Rattle.std.proofs.lemmas.Bool.Decides.{nat_tests}
use Rattle.sg_macro.specs.Macros.{pair_name}
use Rattle.sg_macro.specs.declared.part.TemplatePart.{TemplatePart}
use Rattle.sg_msg.specs.Macros.{is_hard, other_macros, date_macros}
use Rattle.sg_parse_base.specs.declared.spot.Spot.{Spot}
use Rattle.sg_parse_base.specs.Tokens.{same_keyword}
use Rattle.sg_parse_expr.specs.declared.tree.Arg.{Arg}
use Rattle.sg_parse_expr.specs.declared.tree.Call.{Call, out-Call}
use Rattle.sg_fault.specs.declared.placed.Placed.{Placed}
use Rattle.sg_tree.specs.Sound.{name_sound}
use Rattle.sg_options.specs.Settings.{word_of, args_of, calls_of, nested_of, value_of, is_called, with_call, later, last_option, value_behind}
use Rattle.sg_options.specs.Values.{text_of}
use Rattle.sg_lower.specs.Values.{value_name}
use Rattle.sg_lower.specs.Rewrites.{Meant, group_set, group_unset, set_tag, clear_tag, meant_by, condition}
use Rattle.sg_values.specs.Settings.{missing_if, missing, name_faults_of, hard_faults_of, faults_if, name_faults, hard_faults}
use Rattle.sg_values.specs.Calls.{named_faults, own_faults}
use Rattle.sg_values.specs.Conditions.{condition_faults, rewrite_faults}
use Rattle.sg_values.specs.Patterns.{pattern_faults}
use Rattle.sg_forest.specs.Written.{WrittenRule, is_sound}
use Rattle.sg_forest.specs.Kept.{HasValue, RewritesAreKept}

pub both-empty : {A : Type 0} (xs ys : List A) → xs ++ ys ≡ [] → (xs ≡ []) × (ys ≡ [])
both-empty [] ys h = (refl, h)
both-empty (x ∷ xs) ys h = let no : ⊥ = cc in absurd no

not-chosen : {A : Type 0} (b : Bool) (x : A) → cond b (x ∷ []) [] ≡ [] → b ≡ false
not-chosen true x h = let no : ⊥ = cc in absurd no
not-chosen false x h = refl

-- what holds of no option that is called so doesn't hold of the last one
module _ (word : List ℕ) (faults : Call → List Placed) where
  pick : (last : Option Call) (b : Bool) (call option : Call) → ((other : Call) → last ≡ Some other → faults other ≡ []) → later last (cond b (Some call) None) ≡ Some option
      → cond b (faults call) [] ≡ [] → faults option ≡ []
  pick (Some x) b call option before is clean = before option is
  pick None true call option before is clean = let same : call ≡ option = cc in subst (λ (c : Call). faults c ≡ []) same clean
  pick None false call option before is clean = let no : ⊥ = cc in absurd no

  step : (nested : Option Call) (calls : List Call) (rest : List Placed) (option : Call)
      → ((other : Call) → last_option (word ∷ []) calls ≡ Some other → rest ≡ [] → faults other ≡ [])
      → last_option (word ∷ []) (with_call nested calls) ≡ Some option → faults_if word faults nested ++ rest ≡ [] → faults option ≡ []
  step None calls rest option before is clean = before option is clean
  step (Some call) calls rest option before is clean =
      let both = both-empty (faults_if word faults (Some call)) rest clean in
      pick (last_option (word ∷ []) calls) (is_called (word ∷ []) call) call option (λ other last. before other last both.1) is both.0

  last-clean : (args : List Arg) (option : Call) → last_option (word ∷ []) (calls_of args) ≡ Some option → flat_map (λ arg. faults_if word faults (nested_of arg)) args ≡ [] → faults option ≡ []
  last-clean [] option is clean = let no : ⊥ = cc in absurd no
  last-clean (arg ∷ args) option is clean =
      step (nested_of arg) (calls_of args) (flat_map (λ a. faults_if word faults (nested_of a)) args) option (λ other last rest. last-clean args other last rest) is clean

there : (word : Spot) (found : Option Call) → missing_if word found ≡ [] → (option : Call) × (found ≡ Some option)
there word None h = let no : ⊥ = cc in absurd no
there word (Some call) h = (call, refl)

pub or-right : (a b : Bool) → (a || b) ≡ false → b ≡ false
or-right true b h = let no : ⊥ = cc in absurd no
or-right false b h = h

pub at-most : (n : ℕ) → nat_lt 255 n ≡ false → nat_le n 255 ≡ true
at-most n h = grind (arith, nat_tests)

-- a text that is as long as a name may be, and no macro's
name-is-sound : (text : List ℕ) → ((length text == 0) || nat_lt 255 (length text)) ≡ false → is_hard text ≡ false → name_sound text ≡ true
name-is-sound [] long hard = let no : ⊥ = cc in absurd no
name-is-sound (b ∷ bs) long hard = λ i. at-most (length (b ∷ bs)) (or-right (length (b ∷ bs) == 0) (nat_lt 255 (length (b ∷ bs))) long) i && not (hard i)

message-sound : name_sound (codes "MESSAGE") ≡ true
unfolding is_hard other_macros date_macros
message-sound = refl

host-sound : name_sound (codes "HOST") ≡ true
unfolding is_hard other_macros date_macros
host-sound = refl

choice-sound : (a b c : Bool) (text : List ℕ) → name_sound text ≡ true → name_sound (cond a (codes "MESSAGE") (cond b (codes "MESSAGE") (cond c (codes "HOST") text))) ≡ true
choice-sound true b c text h = message-sound
choice-sound false true c text h = message-sound
choice-sound false false true text h = host-sound
choice-sound false false false text h = h

pair-sound : (text : List ℕ) → name_sound text ≡ true → name_sound (pair_name text) ≡ true
unfolding pair_name
pair-sound text h = choice-sound (bytes_eq text (codes "MSG")) (bytes_eq text (codes "MSGONLY")) (bytes_eq text (codes "FULLHOST")) text h

spot-sound : (word spot : Spot) → name_faults_of (Some spot) ≡ [] → hard_faults_of word (Some spot) ≡ [] → name_sound (pair_name spot.token.text) ≡ true
spot-sound word spot long hard =
    pair-sound spot.token.text
    (name-is-sound spot.token.text (not-chosen ((length spot.token.text == 0) || nat_lt 255 (length spot.token.text)) _ long) (not-chosen (is_hard spot.token.text) _ hard))

named-sound : (call : Call) → HasValue call → named_faults call ≡ [] → name_sound (value_name (args_of call)) ≡ true
named-sound call has clean =
    let args = args_of call in
    let word = (out-Call call).word in
    let parts = both-empty (missing (codes "value") call ++ flat_map name_faults args) (flat_map (hard_faults word) args) clean in
    let first = both-empty (missing (codes "value") call) (flat_map name_faults args) parts.0 in
    let found = there word (last_option (codes "value" ∷ []) (calls_of args)) first.0 in
    let option : Call = found.0 in
    let value = has option found.1 in
    let long : name_faults_of (value_of option) ≡ [] = last-clean (codes "value") (λ (c : Call). name_faults_of (value_of c)) args option found.1 first.1 in
    let hard : hard_faults_of word (value_of option) ≡ [] = last-clean (codes "value") (λ (c : Call). hard_faults_of word (value_of c)) args option found.1 parts.1 in
    ap (λ (o : Option Call). name_sound (pair_name (text_of (value_behind o)))) found.1
    ∙ ap (λ (v : Option Spot). name_sound (pair_name (text_of v))) value.1
    ∙ spot-sound word value.0
    (subst (λ (v : Option Spot). name_faults_of v ≡ []) value.1 long)
    (subst (λ (v : Option Spot). hard_faults_of word v ≡ []) value.1 hard)

rest-sound : (g a b : Bool) (globs : List (List ℕ)) (text : List TemplatePart) (tag : List ℕ)
    → is_sound (cond g (cond a (group_set globs text) (group_unset globs)) (cond b (set_tag tag) (clear_tag tag))) ≡ true
rest-sound true true b globs text tag = refl
rest-sound true false b globs text tag = refl
rest-sound false a true globs text tag = refl
rest-sound false a false globs text tag = refl

-- by its word
kind-sound : (s u r : Bool) (named subst_ones other : List Placed) (m n o rest : Meant)
    → (named ≡ [] → is_sound m ≡ true) → (named ≡ [] → is_sound n ≡ true) → (subst_ones ≡ [] → is_sound o ≡ true) → is_sound rest ≡ true
    → cond (cond s true (cond u true false)) named (cond (cond r true false) subst_ones other) ≡ []
    → is_sound (cond (cond s true (cond u true (cond r true false))) (cond (cond s true false) m (cond (cond u true false) n o)) rest) ≡ true
kind-sound true u r named subst_ones other m n o rest hm hn ho hr clean = hm clean
kind-sound false true r named subst_ones other m n o rest hm hn ho hr clean = hn clean
kind-sound false false true named subst_ones other m n o rest hm hn ho hr clean = ho clean
kind-sound false false false named subst_ones other m n o rest hm hn ho hr clean = hr

call-sound : (call : Call) → HasValue call → own_faults call ≡ [] → is_sound (meant_by call) ≡ true
unfolding own_faults meant_by
call-sound call has clean =
    let text = (word_of call).token.text in
    kind-sound (same_keyword text (codes "set")) (same_keyword text (codes "unset")) (same_keyword text (codes "subst")) (named_faults call) (named_faults call ++ pattern_faults (args_of call)) _ _ _ _ _
    (λ e. named-sound call has e)
    (λ e. named-sound call has e)
    (λ e. named-sound call has (both-empty (named_faults call) (pattern_faults (args_of call)) e).0)
    (rest-sound _ _ _ _ _ _)
    clean

pub are-kept : RewritesAreKept
unfolding rewrite_faults
are-kept names call has clean =
    let own = both-empty (own_faults call) (flat_map condition_faults (args_of call)) clean in
    let written : WrittenRule = record { condition = condition names (args_of call); operation = meant_by call } in
    ap (λ (b : Bool). cond b (written ∷ []) []) (call-sound call has own.0)
