-- Paths: what is read is of the grammar, and what is of the grammar is read.
use Rattle.std.proofs.Common.{◌≡◌, ◌⊎◌, inl, inr, ℕ, zero, suc, ◌≤◌, Bool, true, false, cond, List, [], ◌∷◌, ◌++◌, length, Option, Some, None, Ok, Err, refl, sym, ap, subst, ◌∙◌, append_assoc, arith}
use Rattle.std.specs.Prelude.{◌&&◌, codes}
use Rattle.std.proofs.lemmas.Bool.{and_parts}
use Rattle.std.proofs.lemmas.List.{append-nil}
use Rattle.sg_lex.specs.declared.fault.ConfigKind.TheVariants.{Unexpected, Unsupported}
use Rattle.sg_parse_base.specs.declared.fault.ParseFault.{ParseFault}
use Rattle.sg_parse_base.specs.declared.spot.Spot.{Spot}
use Rattle.sg_parse_base.specs.Tokens.{is_name, is_keyword}
use Rattle.sg_parse_base.specs.Input.{Parser, ◌>>=◌, behind, any, next_is, sees, sees_word, symbol, fault_at}
use Rattle.sg_parse_base.specs.Lists.{many, body, ending}
use Rattle.sg_parse_base.specs.Grammar.{Stands, TakesToken, Symbol, Keyword, Many, Braced}
use Rattle.sg_parse_base.specs.Laws.{Agrees, Matches, LeavesEnd}
use Rattle.sg_parse_base.proofs.Steps.{step_ok, guard_ok, test_ok, ok_is, chosen, next-takes, sees-takes, symbol-takes, takes-symbol, takes-sees, takes-behind, leaves-then, takes-leaves, symbol-leaves, symbol-sees, shorter, name-sees}
use Rattle.sg_parse_base.proofs.ListLaws.{body-law, ending-sound, ending-closes, ending-goes_on}
use Rattle.sg_parse_base.proofs.ChainLaws.{word-takes, takes-word, keyword-behind, keyword-leaves}
use Rattle.sg_parse_expr.specs.Expr.{expr}
use Rattle.sg_parse_expr.proofs.ExprLaws.{symbol-ends, expr-sound, expr-again, expr-leaves}
use Rattle.sg_parse_obj.proofs.Apart.{apart}
use Rattle.sg_parse_path.specs.declared.tree.RawLog.{RawLog}
use Rattle.sg_parse_path.specs.declared.tree.RawElement.{RawElement}
use Rattle.sg_parse_path.specs.declared.tree.RawElement.TheVariants.{Junction, If}
use Rattle.sg_parse_path.specs.declared.tree.RawBranch.{RawBranch}
use Rattle.sg_parse_path.specs.declared.path.Stage.{Stage}
use Rattle.sg_parse_path.specs.declared.path.Stage.TheVariants as stage
use Rattle.sg_parse_path.specs.declared.path.PathItem.{PathItem}
use Rattle.sg_parse_path.specs.declared.path.PathItem.TheVariants as piece
use Rattle.sg_parse_path.specs.declared.path.RawPath.{RawPath}
use Rattle.sg_parse_path.specs.declared.reference.ReferenceKind.{ReferenceKind}
use Rattle.sg_parse_path.specs.Flags.{flag, names_flag}
use Rattle.sg_parse_path.specs.declared.reference.ReferenceKind.TheVariants as kind
use Rattle.sg_parse_path.specs.References.{mapped, kind_of, word_of}
use Rattle.sg_parse_path.specs.Paths as p
use Rattle.sg_parse_path.specs.Grammar.{path_of, Terminated, Worded, Other, Arm, Arms, IsPathElement, IsPathItem, ArePathItems, BracedPath, IsLog}
use Rattle.sg_parse_path.proofs.ReferenceLaws.{flags-law, mapped-law, takes-any, referring-sound, referring-again, referring-leaves, kind-sound, kind-again, junction-no_kind, if-no_kind}
use Rattle.sg_parse_obj.proofs.DriverLaws.{keyword-name}

-- nothing or more is taken
abbrev pub KeepsPath : List Spot → List Spot → Type 0
KeepsPath s r = (s ≡ r) ⊎ LeavesEnd s r

keep-behind : (s m r : List Spot) → LeavesEnd s m → KeepsPath m r → LeavesEnd s r
keep-behind s m r l (inl same) = subst (LeavesEnd s) same l
keep-behind s m r l (inr more) = leaves-then s m r l more

no_word : (word : List ℕ) (s : List Spot) → length s ≤ 0 → sees_word word s ≡ false
unfolding sees_word
no_word word [] le = refl
no_word word (spot ∷ spots) le = absurd (omega (arith, le))

-- ---- the semicolon behind a thing

ended-sound : (s : List Spot) (x : Unit {0} × List Spot) → ending s ≡ Ok x → Terminated s x.1
ended-sound s x e = ending-sound s x e

ended-again : (s r : List Spot) → Terminated s r → ending s ≡ Ok (tt, r)
ended-again s r (inl last) = subst (λ (k : List Spot). ending s ≡ Ok (tt, k)) last.1 (ending-closes s (behind s) (sees-takes 125 s last.0))
ended-again s r (inr semi) = ending-goes_on s r semi

ended-keeps : (s r : List Spot) → Terminated s r → KeepsPath s r
ended-keeps s r (inl last) = inl last.1
ended-keeps s r (inr semi) = inr (symbol-leaves 59 s r semi)

module _ (block : Stage → Parser RawPath) (Inner : Stage → Stands RawPath) (law : (at : Stage) → Matches (block at) (Inner at)) where
  pub worded-sound : (word : List ℕ) (s : List Spot) (y : RawLog × List Spot) → p.worded block word s ≡ Ok y → Worded Inner word s y.0 y.1
  unfolding p.worded sees_word
  worded-sound word s y h =
      let t = test_ok (sees_word word s) (fault_at Unexpected s) (any s >>= λ spot. block stage.All spot.1 >>= λ path. Ok (p.log_of spot.0 path.0, path.1)) y h in
      let a = step_ok (any s) (λ spot. block stage.All spot.1 >>= λ path. Ok (p.log_of spot.0 path.0, path.1)) y t.1 in
      let b = step_ok (block stage.All a.0.1) (λ path. Ok (p.log_of a.0.0 path.0, path.1)) y a.2 in
      let is = ok_is (p.log_of a.0.0 b.0.0) y.0 b.0.1 y.1 b.2 in
      record {
        spot = a.0.0;
        m = a.0.1;
        path = b.0.0;
        is_word = next-takes (is_keyword word) s a.0 t.0 a.1;
        is_path = subst (λ (r : List Spot). Inner stage.All a.0.1 b.0.0 r) is.1 ((law stage.All).sound a.0.1 b.0 b.1);
        is = sym is.0;
      }

  pub worded-again : (word : List ℕ) (s r : List Spot) (x : RawLog) → Worded Inner word s x r → p.worded block word s ≡ Ok (x, r)
  unfolding p.worded
  worded-again word s r x t = rw (takes-word word s t.m (t.spot, t.is_word), takes-any s t.m t.spot t.is_word.0, (law stage.All).again t.m r t.path t.is_path, t.is) refl

  pub worded-leaves : (word : List ℕ) (s r : List Spot) (x : RawLog) → Worded Inner word s x r → LeavesEnd s r
  worded-leaves word s r x t = leaves-then s t.m r (takes-leaves (is_keyword word) s t.spot t.m t.is_word) ((law stage.All).leaves t.m r t.path t.is_path)

  channel-law : Agrees (p.channel block) (Worded Inner (codes "channel"))
  channel-law = record {
    sound = λ s y h. worded-sound (codes "channel") s y h;
    again = λ s r x t. worded-again (codes "channel") s r x t;
    front = λ s r x t. keyword-name (codes "channel") s t.m (t.spot, t.is_word);
    leaves = λ s r x t. worded-leaves (codes "channel") s r x t;
  }

  channels-law : Matches (body (p.channel block)) (Braced (Worded Inner (codes "channel")))
  channels-law = body-law (p.channel block) (Worded Inner (codes "channel")) channel-law

  other-sound : (s : List Spot) (y : Option (List RawElement) × List Spot) → p.other block s ≡ Ok y → Other Inner s y.0 y.1
  unfolding p.other
  other-sound s y h =
      elim (chosen (sees_word (codes "else") s) (block stage.Branch (behind s) >>= λ path. Ok (Some path.0.elements, path.1)) (Ok (None, s)) (Ok y) h) [
        | inl a ↦
            let b = step_ok (block stage.Branch (behind s)) (λ path. Ok (Some path.0.elements, path.1)) y a.1 in
            let is = ok_is (Some b.0.0.elements) y.0 b.0.1 y.1 b.2 in
            Other.some s (behind s) y.1 b.0.0 y.0 (word-takes (codes "else") s a.0) (subst (λ (r : List Spot). Inner stage.Branch (behind s) b.0.0 r) is.1 ((law stage.Branch).sound (behind s) b.0 b.1)) (sym is.0)
        | inr a ↦
            let is = ok_is y.0 None y.1 s (sym a.1) in
            subst (λ (q : Option (List RawElement)). Other Inner s q y.1) (sym is.0) (subst (λ (r : List Spot). Other Inner s None r) (sym is.1) (Other.none s a.0))
      ]

  other-again : (s r : List Spot) (x : Option (List RawElement)) → Other Inner s x r → p.other block s ≡ Ok (x, r)
  unfolding p.other
  other-again s r x (Other.none _ lacks) = rw lacks refl
  other-again s r x (Other.some _ m _ path _ k t is) = rw (takes-word (codes "else") s m k, keyword-behind (codes "else") s m k, (law stage.Branch).again m r path t, is) refl

  other-keeps : (s r : List Spot) (x : Option (List RawElement)) → Other Inner s x r → KeepsPath s r
  other-keeps s r x (Other.none _ lacks) = inl refl
  other-keeps s r x (Other.some _ m _ path _ k t is) = inr (leaves-then s m r (keyword-leaves (codes "else") s m k) ((law stage.Branch).leaves m r path t))

  module _ (depth : ℕ) where
    -- ---- branches

    arm-sound : (word : List ℕ) (s : List Spot) (y : RawBranch × List Spot) → sees_word word s ≡ true → p.arm depth block s ≡ Ok y → Arm depth Inner word s y.0 y.1
    unfolding p.arm
    arm-sound word s y is_word h =
        let g = guard_ok (sees 123 (behind s)) (fault_at Unsupported s) (symbol 40 (behind s) >>= λ opened. expr depth opened.1 >>= λ x. symbol 41 x.1 >>= λ closed. block stage.Branch closed.1 >>= λ path. Ok (p.branch_of x.0 path.0, path.1)) y h in
        let a = step_ok (symbol 40 (behind s)) (λ opened. expr depth opened.1 >>= λ x. symbol 41 x.1 >>= λ closed. block stage.Branch closed.1 >>= λ path. Ok (p.branch_of x.0 path.0, path.1)) y g.1 in
        let b = step_ok (expr depth a.0.1) (λ x. symbol 41 x.1 >>= λ closed. block stage.Branch closed.1 >>= λ path. Ok (p.branch_of x.0 path.0, path.1)) y a.2 in
        let c = step_ok (symbol 41 b.0.1) (λ closed. block stage.Branch closed.1 >>= λ path. Ok (p.branch_of b.0.0 path.0, path.1)) y b.2 in
        let d = step_ok (block stage.Branch c.0.1) (λ path. Ok (p.branch_of b.0.0 path.0, path.1)) y c.2 in
        let is = ok_is (p.branch_of b.0.0 d.0.0) y.0 d.0.1 y.1 d.2 in
        record {
          m = behind s;
          inner = a.0.1;
          after = b.0.1;
          next = c.0.1;
          test = b.0.0;
          path = d.0.0;
          is_word = word-takes word s is_word;
          opens = symbol-takes 40 (behind s) a.0 a.1;
          is_test = expr-sound depth a.0.1 b.0 b.1;
          closes = symbol-takes 41 b.0.1 c.0 c.1;
          is_path = subst (λ (r : List Spot). Inner stage.Branch c.0.1 d.0.0 r) is.1 ((law stage.Branch).sound c.0.1 d.0 d.1);
          is = sym is.0;
        }

    arm-again : (word : List ℕ) (s r : List Spot) (x : RawBranch) → Arm depth Inner word s x r → p.arm depth block s ≡ Ok (x, r)
    unfolding p.arm
    arm-again word s r x t =
        let no_brace : sees 123 t.m ≡ false = symbol-sees 40 123 t.m t.inner t.opens (λ e. omega (arith, e)) in
        let stops = symbol-ends 41 t.after t.next t.closes in
        rw (keyword-behind word s t.m t.is_word, no_brace, takes-symbol 40 t.m t.inner t.opens, expr-again depth t.inner t.after t.test t.is_test stops, takes-symbol 41 t.after t.next t.closes, (law stage.Branch).again t.next r t.path t.is_path, t.is) refl

    arm-leaves : (word : List ℕ) (s r : List Spot) (x : RawBranch) → Arm depth Inner word s x r → LeavesEnd s r
    arm-leaves word s r x t =
        leaves-then s t.m r (keyword-leaves word s t.m t.is_word)
        (leaves-then t.m t.inner r (symbol-leaves 40 t.m t.inner t.opens)
        (leaves-then t.inner t.after r (expr-leaves depth t.inner t.after t.test t.is_test)
        (leaves-then t.after t.next r (symbol-leaves 41 t.after t.next t.closes) ((law stage.Branch).leaves t.next r t.path t.is_path))))

    arms_from-sound : (n : ℕ) (found : List RawBranch) (s : List Spot) (y : List RawBranch × List Spot) → length s ≤ n → p.arms_from depth block n found s ≡ Ok y → (xs : List RawBranch) × (y.0 ≡ found ++ xs) × Arms depth Inner s xs y.1
    unfolding p.arms_from
    arms_from-sound zero found s y le e =
        let is = ok_is found y.0 s y.1 e in
        ([], sym is.0 ∙ sym (append-nil found), subst (λ (r : List Spot). Arms depth Inner s [] r) is.1 (Arms.done s (no_word (codes "elif") s le)))
    arms_from-sound (suc n) found s y le e =
        elim (chosen (sees_word (codes "elif") s) (p.arm depth block s >>= λ x. p.arms_from depth block n (found ++ x.0 ∷ []) x.1) (Ok (found, s)) (Ok y) e) [
          | inl h ↦
              let a = step_ok (p.arm depth block s) (λ x. p.arms_from depth block n (found ++ x.0 ∷ []) x.1) y h.1 in
              let one = arm-sound (codes "elif") s a.0 h.0 a.1 in
              let less = shorter s a.0.1 (arm-leaves (codes "elif") s a.0.1 a.0.0 one) in
              let rest = arms_from-sound n (found ++ a.0.0 ∷ []) a.0.1 y (omega (arith, less, le)) a.2 in
              (a.0.0 ∷ rest.0, rest.1 ∙ append_assoc found (a.0.0 ∷ []) rest.0, Arms.more s a.0.1 y.1 a.0.0 rest.0 one rest.2)
          | inr h ↦
              let is = ok_is found y.0 s y.1 h.1 in
              ([], sym is.0 ∙ sym (append-nil found), subst (λ (r : List Spot). Arms depth Inner s [] r) is.1 (Arms.done s h.0))
        ]

    arms_from-again : (n : ℕ) (found xs : List RawBranch) (s r : List Spot) → Arms depth Inner s xs r → length s ≤ n → p.arms_from depth block n found s ≡ Ok (found ++ xs, r)
    unfolding p.arms_from
    arms_from-again zero found xs s r (Arms.done _ lacks) le = rw (append-nil found) refl
    arms_from-again zero found xs s r (Arms.more _ m _ x ys one rest) le = absurd (omega (arith, shorter s m (arm-leaves (codes "elif") s m x one), le))
    arms_from-again (suc n) found xs s r (Arms.done _ lacks) le = rw (lacks, append-nil found) refl
    arms_from-again (suc n) found xs s r (Arms.more _ m _ x ys one rest) le =
        let less = shorter s m (arm-leaves (codes "elif") s m x one) in
        let later = arms_from-again n (found ++ x ∷ []) ys m r rest (omega (arith, less, le)) in
        rw (takes-word (codes "elif") s one.m one.is_word, arm-again (codes "elif") s m x one, later, append_assoc found (x ∷ []) ys) refl

    arms-keep : (s r : List Spot) (xs : List RawBranch) → Arms depth Inner s xs r → KeepsPath s r
    arms-keep s r xs (Arms.done _ lacks) = inl refl
    arms-keep s r xs (Arms.more _ m _ x ys one rest) = inr (keep-behind s m r (arm-leaves (codes "elif") s m x one) (arms-keep m r ys rest))

    -- ---- elements

    conditional-sound : (s : List Spot) (y : RawElement × List Spot) → sees_word (codes "if") s ≡ true → p.conditional depth block s ≡ Ok y → IsPathElement depth Inner s y.0 y.1
    unfolding p.conditional p.arms
    conditional-sound s y is_word h =
        let a = step_ok (p.arms depth block s) (λ branches. p.other block branches.1 >>= λ rest. Ok (If branches.0 rest.0, rest.1)) y h in
        let first = step_ok (p.arm depth block s) (λ x. p.arms_from depth block (length x.1) (x.0 ∷ []) x.1) a.0 a.1 in
        let more = arms_from-sound (length first.0.1) (first.0.0 ∷ []) first.0.1 a.0 (omega arith) first.2 in
        let b = step_ok (p.other block a.0.1) (λ rest. Ok (If a.0.0 rest.0, rest.1)) y a.2 in
        let is = ok_is (If a.0.0 b.0.0) y.0 b.0.1 y.1 b.2 in
        IsPathElement.conditional s first.0.1 a.0.1 y.1 first.0.0 more.0 b.0.0 y.0 (arm-sound (codes "if") s first.0 is_word first.1) more.2 (subst (λ (r : List Spot). Other Inner a.0.1 b.0.0 r) is.1 (other-sound a.0.1 b.0 b.1)) (sym is.0 ∙ ap (λ (xs : List RawBranch). If xs b.0.0) more.1)

    conditional-again : (s m n r : List Spot) (first : RawBranch) (more : List RawBranch) (rest : Option (List RawElement)) (x : RawElement) → Arm depth Inner (codes "if") s first m → Arms depth Inner m more n → Other Inner n rest r → x ≡ If (first ∷ more) rest → p.conditional depth block s ≡ Ok (x, r)
    unfolding p.conditional p.arms
    conditional-again s m n r first more rest x one all other is =
        rw (arm-again (codes "if") s m first one, arms_from-again (length m) (first ∷ []) more m n all (omega arith), other-again n r rest other, is) refl

    element-sound : (s : List Spot) (y : RawElement × List Spot) → p.element depth block s ≡ Ok y → IsPathElement depth Inner s y.0 y.1
    unfolding p.element p.junction
    element-sound s y h = by (kind_of s) refl h
      where
        by : (k : Option ReferenceKind) → kind_of s ≡ k → p.element_by depth block k s ≡ Ok y → IsPathElement depth Inner s y.0 y.1
        by (Some k) is h = IsPathElement.refers s y.1 y.0 k (referring-sound depth k s y (kind-sound s k is) h)
        by None is h =
            elim (chosen (sees_word (codes "junction") s) (p.junction block s) (cond (sees_word (codes "if") s) (p.conditional depth block s) (Err (fault_at Unexpected s))) (Ok y) h) [
              | inl a ↦
                  let t = (mapped-law (λ xs. Junction xs) (body (p.channel block)) (Braced (Worded Inner (codes "channel"))) channels-law).sound (behind s) y a.1 in
                  IsPathElement.junction s (behind s) y.1 t.0 y.0 (word-takes (codes "junction") s a.0) t.1 t.2
              | inr a ↦ elim (chosen (sees_word (codes "if") s) (p.conditional depth block s) (Err (fault_at Unexpected s)) (Ok y) a.1) [
                | inl b ↦ conditional-sound s y b.0 b.1
                | inr b ↦ let never = b.1 in absurd (cc)
              ]
            ]

    element-again : (s r : List Spot) (x : RawElement) → IsPathElement depth Inner s x r → p.element depth block s ≡ Ok (x, r)
    unfolding p.element p.junction
    element-again s r x (IsPathElement.refers _ _ _ k t) = rw (kind-again k s t.m (t.word, t.is_word)) (referring-again depth k s r x t)
    element-again s r x (IsPathElement.junction _ m _ xs _ k t is) =
        rw (junction-no_kind s m k, takes-word (codes "junction") s m k, keyword-behind (codes "junction") s m k, channels-law.again m r xs t, is) refl
    element-again s r x (IsPathElement.conditional _ m n _ first more rest _ one all other is) =
        rw (if-no_kind s one.m one.is_word, apart (codes "if") (codes "junction") refl s one.m one.is_word, takes-word (codes "if") s one.m one.is_word) (conditional-again s m n r first more rest x one all other is)

    element-front : (s r : List Spot) (x : RawElement) → IsPathElement depth Inner s x r → (word : List ℕ) × (m : List Spot) × Keyword word s m × (sees_word (codes "log") s ≡ false) × (sees_word (codes "flags") s ≡ false)
    element-front s r x (IsPathElement.refers _ _ _ k t) = by k (t.word, t.is_word)
      where
        by : (k : ReferenceKind) → Keyword (word_of k) s t.m → (word : List ℕ) × (m : List Spot) × Keyword word s m × (sees_word (codes "log") s ≡ false) × (sees_word (codes "flags") s ≡ false)
        by kind.Source w = (codes "source", t.m, w, apart (codes "source") (codes "log") refl s t.m w, apart (codes "source") (codes "flags") refl s t.m w)
        by kind.Destination w = (codes "destination", t.m, w, apart (codes "destination") (codes "log") refl s t.m w, apart (codes "destination") (codes "flags") refl s t.m w)
        by kind.Filter w = (codes "filter", t.m, w, apart (codes "filter") (codes "log") refl s t.m w, apart (codes "filter") (codes "flags") refl s t.m w)
        by kind.Rewrite w = (codes "rewrite", t.m, w, apart (codes "rewrite") (codes "log") refl s t.m w, apart (codes "rewrite") (codes "flags") refl s t.m w)
        by kind.Parser w = (codes "parser", t.m, w, apart (codes "parser") (codes "log") refl s t.m w, apart (codes "parser") (codes "flags") refl s t.m w)
    element-front s r x (IsPathElement.junction _ m _ xs _ k t is) = (codes "junction", m, k, apart (codes "junction") (codes "log") refl s m k, apart (codes "junction") (codes "flags") refl s m k)
    element-front s r x (IsPathElement.conditional _ m n _ first more rest _ one all other is) = (codes "if", one.m, one.is_word, apart (codes "if") (codes "log") refl s one.m one.is_word, apart (codes "if") (codes "flags") refl s one.m one.is_word)

    element-leaves : (s r : List Spot) (x : RawElement) → IsPathElement depth Inner s x r → LeavesEnd s r
    element-leaves s r x (IsPathElement.refers _ _ _ k t) = referring-leaves depth k s r x t
    element-leaves s r x (IsPathElement.junction _ m _ xs _ k t is) = leaves-then s m r (keyword-leaves (codes "junction") s m k) (channels-law.leaves m r xs t)
    element-leaves s r x (IsPathElement.conditional _ m n _ first more rest _ one all other is) =
        keep-behind s n r (keep-behind s m n (arm-leaves (codes "if") s m first one) (arms-keep m n more all)) (other-keeps n r rest other)

    -- ---- things in their order

    part-sound : (at : Stage) (s : List Spot) (y : PathItem × List Spot) → p.one_piece depth block at s ≡ Ok y → IsPathItem depth Inner at s y.0 y.1
    unfolding p.one_piece p.embedded p.flags
    part-sound at s y h =
        elim (chosen (p.takes_ends at && sees_word (codes "log") s) (p.embedded block s) (cond (p.takes_ends at && sees_word (codes "flags") s) (p.flags s) (cond (p.takes_elements at) (mapped (λ x. piece.Element x) (p.element depth block) s) (Err (fault_at Unexpected s)))) (Ok y) h) [
          | inl a ↦
              let b = step_ok (p.worded block (codes "log") s) (λ x. Ok (piece.Embedded x.0, x.1)) y a.1 in
              let is = ok_is (piece.Embedded b.0.0) y.0 b.0.1 y.1 b.2 in
              IsPathItem.embedded s y.1 b.0.0 y.0 (and_parts (p.takes_ends at) (sees_word (codes "log") s) a.0).0 (subst (λ (r : List Spot). Worded Inner (codes "log") s b.0.0 r) is.1 (worded-sound (codes "log") s b.0 b.1)) (sym is.0)
          | inr a ↦ elim (chosen (p.takes_ends at && sees_word (codes "flags") s) (p.flags s) (cond (p.takes_elements at) (mapped (λ x. piece.Element x) (p.element depth block) s) (Err (fault_at Unexpected s))) (Ok y) a.1) [
            | inl b ↦
                let parts = and_parts (p.takes_ends at) (sees_word (codes "flags") s) b.0 in
                let t = (mapped-law (λ xs. piece.Flags xs) (many flag) (Many (TakesToken names_flag)) flags-law).sound (behind s) y b.1 in
                IsPathItem.flags s (behind s) y.1 t.0 y.0 parts.0 (word-takes (codes "flags") s parts.1) t.1 t.2
            | inr b ↦
                let g = test_ok (p.takes_elements at) (fault_at Unexpected s) (mapped (λ x. piece.Element x) (p.element depth block) s) y b.1 in
                let c = step_ok (p.element depth block s) (λ x. Ok (piece.Element x.0, x.1)) y g.1 in
                let is = ok_is (piece.Element c.0.0) y.0 c.0.1 y.1 c.2 in
                IsPathItem.element s y.1 c.0.0 y.0 g.0 (subst (λ (r : List Spot). IsPathElement depth Inner s c.0.0 r) is.1 (element-sound s c.0 c.1)) (sym is.0)
          ]
        ]

    and_none : (b : Bool) → (b && false) ≡ false
    and_none true = refl
    and_none false = refl

    part-again : (at : Stage) (s r : List Spot) (y : PathItem) → IsPathItem depth Inner at s y r → p.one_piece depth block at s ≡ Ok (y, r)
    unfolding p.one_piece p.embedded p.flags
    part-again at s r y (IsPathItem.element _ _ x _ may t is) =
        let front = element-front s r x t in
        rw (front.3, front.4, and_none (p.takes_ends at), may, element-again s r x t, is) refl
    part-again at s r y (IsPathItem.embedded _ _ x _ may t is) =
        rw (may, takes-word (codes "log") s t.m (t.spot, t.is_word), worded-again (codes "log") s r x t, is) refl
    part-again at s r y (IsPathItem.flags _ m _ xs _ may k t is) =
        rw (may, apart (codes "flags") (codes "log") refl s m k, takes-word (codes "flags") s m k, keyword-behind (codes "flags") s m k, flags-law.again m r xs t, is) refl

    part-front : (at : Stage) (s r : List Spot) (y : PathItem) → IsPathItem depth Inner at s y r → next_is is_name s ≡ true
    part-front at s r y (IsPathItem.element _ _ x _ may t is) = let front = element-front s r x t in keyword-name front.0 s front.1 front.2
    part-front at s r y (IsPathItem.embedded _ _ x _ may t is) = keyword-name (codes "log") s t.m (t.spot, t.is_word)
    part-front at s r y (IsPathItem.flags _ m _ xs _ may k t is) = keyword-name (codes "flags") s m k

    part-leaves : (at : Stage) (s r : List Spot) (y : PathItem) → IsPathItem depth Inner at s y r → LeavesEnd s r
    part-leaves at s r y (IsPathItem.element _ _ x _ may t is) = element-leaves s r x t
    part-leaves at s r y (IsPathItem.embedded _ _ x _ may t is) = worded-leaves (codes "log") s r x t
    part-leaves at s r y (IsPathItem.flags _ m _ xs _ may k t is) = leaves-then s m r (keyword-leaves (codes "flags") s m k) (flags-law.leaves m r xs t)

    parts-leave : (at : Stage) (s r : List Spot) (xs : List PathItem) → ArePathItems depth Inner at s xs r → LeavesEnd s r
    parts-leave at s r xs (ArePathItems.closed _ _ _ t) = symbol-leaves 125 s r t
    parts-leave at s r xs (ArePathItems.extra _ _ m _ _ t rest) = leaves-then s m r (symbol-leaves 59 s m t) (parts-leave at m r xs rest)
    parts-leave at s r xs (ArePathItems.more _ _ m n _ x ys one ended rest) =
        leaves-then s n r (keep-behind s m n (part-leaves at s m x one) (ended-keeps m n ended)) (parts-leave (p.stage_behind at x) n r ys rest)

    parts_from-sound : (n : ℕ) (at : Stage) (found : RawPath) (s : List Spot) (y : RawPath × List Spot) → p.pieces_from depth block n at found s ≡ Ok y → (xs : List PathItem) × (y.0 ≡ path_of found xs) × ArePathItems depth Inner at s xs y.1
    unfolding p.pieces_from
    parts_from-sound zero at found s y e = absurd cc
    parts_from-sound (suc n) at found s y e =
        elim (chosen (sees 125 s) (Ok (found, behind s)) (cond (sees 59 s) (p.pieces_from depth block n at found (behind s)) (p.one_piece depth block at s >>= λ x. ending x.1 >>= λ next. p.pieces_from depth block n (p.stage_behind at x.0) (p.with_piece found x.0) next.1)) (Ok y) e) [
          | inl h ↦
              let is = ok_is found y.0 (behind s) y.1 h.1 in
              ([], sym is.0, ArePathItems.closed at s y.1 (subst (λ (r : List Spot). Symbol 125 s r) is.1 (sees-takes 125 s h.0)))
          | inr h ↦
              elim (chosen (sees 59 s) (p.pieces_from depth block n at found (behind s)) (p.one_piece depth block at s >>= λ x. ending x.1 >>= λ next. p.pieces_from depth block n (p.stage_behind at x.0) (p.with_piece found x.0) next.1) (Ok y) h.1) [
                | inl g ↦
                    let rest = parts_from-sound n at found (behind s) y g.1 in
                    (rest.0, rest.1, ArePathItems.extra at s (behind s) y.1 rest.0 (sees-takes 59 s g.0) rest.2)
                | inr g ↦
                    let a = step_ok (p.one_piece depth block at s) (λ x. ending x.1 >>= λ next. p.pieces_from depth block n (p.stage_behind at x.0) (p.with_piece found x.0) next.1) y g.1 in
                    let b = step_ok (ending a.0.1) (λ next. p.pieces_from depth block n (p.stage_behind at a.0.0) (p.with_piece found a.0.0) next.1) y a.2 in
                    let rest = parts_from-sound n (p.stage_behind at a.0.0) (p.with_piece found a.0.0) b.0.1 y b.2 in
                    (a.0.0 ∷ rest.0, rest.1, ArePathItems.more at s a.0.1 b.0.1 y.1 a.0.0 rest.0 (part-sound at s a.0 a.1) (ended-sound a.0.1 b.0 b.1) rest.2)
              ]
        ]

    parts_from-again : (n : ℕ) (at : Stage) (found : RawPath) (xs : List PathItem) (s r : List Spot) → ArePathItems depth Inner at s xs r → length s ≤ n → p.pieces_from depth block n at found s ≡ Ok (path_of found xs, r)
    unfolding p.pieces_from
    parts_from-again zero at found xs s r all le = absurd (omega (arith, shorter s r (parts-leave at s r xs all), le))
    parts_from-again (suc n) at found xs s r (ArePathItems.closed _ _ _ t) le = rw (takes-sees 125 s r t, takes-behind 125 s r t) refl
    parts_from-again (suc n) at found xs s r (ArePathItems.extra _ _ m _ _ t rest) le =
        let later = parts_from-again n at found xs m r rest (omega (arith, shorter s m (symbol-leaves 59 s m t), le)) in
        rw (symbol-sees 59 125 s m t (λ e. omega (arith, e)), takes-sees 59 s m t, takes-behind 59 s m t, later) refl
    parts_from-again (suc n) at found xs s r (ArePathItems.more _ _ m k _ x ys one ended rest) le =
        let front = part-front at s m x one in
        let less = shorter s k (keep-behind s m k (part-leaves at s m x one) (ended-keeps m k ended)) in
        let later = parts_from-again n (p.stage_behind at x) (p.with_piece found x) ys k r rest (omega (arith, less, le)) in
        rw (name-sees 125 s front, name-sees 59 s front, part-again at s m x one, ended-again m k ended, later) refl

-- ---- braces in braces

pub block-law : (depth : ℕ) (at : Stage) → Matches (p.block depth at) (BracedPath depth at)
unfolding p.block p.braced p.pieces
block-law zero at = record {
  sound = λ s y h. absurd cc;
  again = λ s r x t. absurd t;
  leaves = λ s r x t. absurd t;
}
block-law (suc depth) at = record {
  sound = λ s y h.
      let a = step_ok (symbol 123 s) (λ opened. p.pieces_from depth (p.block depth) (length opened.1) at p.empty_path opened.1) y h in
      let t = parts_from-sound (p.block depth) (BracedPath depth) (block-law depth) depth (length a.0.1) at p.empty_path a.0.1 y a.2 in
      (a.0.1, t.0, symbol-takes 123 s a.0 a.1, t.2, t.1);
  again = λ s r x t. rw (takes-symbol 123 s t.0 t.2, parts_from-again (p.block depth) (BracedPath depth) (block-law depth) depth (length t.0) at p.empty_path t.1 t.0 r t.3 (omega arith), t.4) refl;
  leaves = λ s r x t. leaves-then s t.0 r (symbol-leaves 123 s t.0 t.2) (parts-leave (p.block depth) (BracedPath depth) (block-law depth) depth at t.0 r t.1 t.3);
}

pub log-sound : (depth : ℕ) (s : List Spot) (y : RawLog × List Spot) → p.log_in depth s ≡ Ok y → IsLog depth s y.0 y.1
unfolding p.log_in
log-sound depth s y h = worded-sound (p.block depth) (BracedPath depth) (block-law depth) (codes "log") s y h

pub log-again : (depth : ℕ) (s r : List Spot) (x : RawLog) → IsLog depth s x r → p.log_in depth s ≡ Ok (x, r)
unfolding p.log_in
log-again depth s r x t = worded-again (p.block depth) (BracedPath depth) (block-law depth) (codes "log") s r x t

pub log-leaves : (depth : ℕ) (s r : List Spot) (x : RawLog) → IsLog depth s x r → LeavesEnd s r
log-leaves depth s r x t = worded-leaves (p.block depth) (BracedPath depth) (block-law depth) (codes "log") s r x t

pub nothing-stands : (depth : ℕ) (s r : List Spot) (x : RawLog) (fault : ParseFault) → p.log_in depth s ≡ Err fault → IsLog depth s x r → ⊥
nothing-stands depth s r x fault refused stands = let read = sym refused ∙ log-again depth s r x stands in cc
