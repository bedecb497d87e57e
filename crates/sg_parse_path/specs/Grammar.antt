-- The grammar of log statements: which trees stand at the front of tokens, and what stands behind them (syslog-ng's administration guide, "Log
-- paths", "Junctions and channels", "Conditional expressions").
use Rattle.std.specs.Prelude.{◌≡◌, ◌⊎◌, ℕ, zero, suc, true, false, List, [], ◌∷◌, codes, Option, Some, None}
use Rattle.sg_parse_base.specs.declared.spot.Spot.{Spot}
use Rattle.sg_parse_base.specs.Tokens.{is_name, is_keyword}
use Rattle.sg_parse_base.specs.Input.{sees, sees_word}
use Rattle.sg_parse_base.specs.Grammar.{Stands, TakesToken, Symbol, Keyword, Many, Braced}
use Rattle.sg_parse_expr.specs.declared.tree.RawExpr.{RawExpr}
use Rattle.sg_parse_expr.specs.Grammar.{Expression}
use Rattle.sg_parse_obj.specs.declared.object.Object.{Object}
use Rattle.sg_parse_obj.specs.declared.object.Object.TheVariants as object
use Rattle.sg_parse_obj.specs.declared.driver.Side.TheVariants as side
use Rattle.sg_parse_obj.specs.Grammar.{DriverCalls, FilterBody, Rewrites, Parsers}
use Rattle.sg_parse_path.specs.declared.tree.RawLog.{RawLog}
use Rattle.sg_parse_path.specs.declared.tree.RawRef.{RawRef}
use Rattle.sg_parse_path.specs.declared.tree.RawRef.TheVariants.{Named, Inline}
use Rattle.sg_parse_path.specs.declared.tree.RawElement.{RawElement}
use Rattle.sg_parse_path.specs.declared.tree.RawElement.TheVariants.{Junction, If}
use Rattle.sg_parse_path.specs.declared.tree.RawBranch.{RawBranch}
use Rattle.sg_parse_path.specs.declared.path.Stage.{Stage}
use Rattle.sg_parse_path.specs.declared.path.Stage.TheVariants as stage
use Rattle.sg_parse_path.specs.declared.path.PathItem.{PathItem}
use Rattle.sg_parse_path.specs.declared.path.PathItem.TheVariants as piece
use Rattle.sg_parse_path.specs.declared.path.RawPath.{RawPath}
use Rattle.sg_parse_path.specs.declared.reference.ReferenceKind.{ReferenceKind}
use Rattle.sg_parse_path.specs.declared.reference.ReferenceKind.TheVariants as kind
use Rattle.sg_parse_path.specs.Flags.{names_flag}
use Rattle.sg_parse_path.specs.References.{element_of, word_of}
use Rattle.sg_parse_path.specs.Paths.{empty_path, with_piece, stage_behind, takes_elements, takes_ends, log_of, branch_of}

-- what stands there, made into something else
abbrev pub Mapped : {A B : Type 0} → (A → B) → Stands A → Stands B
Mapped {A} f One s y r = (x : A) × One s x r × (y ≡ f x)

-- ---- references

-- the body of a statement of this kind, under this name
abbrev pub BodyOf : ℕ → ReferenceKind → Spot → Stands Object
BodyOf depth kind.Source called = Mapped (λ found. object.Source called found)
    (DriverCalls side.Source)
BodyOf depth kind.Destination called = Mapped (λ found. object.Destination called found)
    (DriverCalls side.Destination)
BodyOf depth kind.Filter called = Mapped (λ found. object.Filter called found) (FilterBody depth)
BodyOf depth kind.Rewrite called = Mapped (λ found. object.Rewrite called found) (Rewrites depth)
BodyOf depth kind.Parser called = Mapped (λ found. object.Parser called found) Parsers

-- ref = "(" NAME ")" | the body of such a statement, whose name is the brace that opens it
pub data Refers (depth : ℕ) (kind : ReferenceKind) : List Spot → RawRef → List Spot → Type 0 where
  named : (s m n r : List Spot) (called : Spot) (x : RawRef) → Symbol 40 s m
      → TakesToken is_name m called n → Symbol 41 n r → x ≡ Named called → Refers depth kind s x r
  inline : (s m r : List Spot) (brace : Spot) (found : Object) (x : RawRef) → s ≡ brace ∷ m
      → sees 123 s ≡ true → BodyOf depth kind brace s found r → x ≡ Inline found
      → Refers depth kind s x r

-- a word and a ref
pub record Referring (depth : ℕ) (kind : ReferenceKind) (s : List Spot) (x : RawElement)
    (r : List Spot) : Type 0 where
  pub word : Spot
  pub m : List Spot
  pub found : RawRef
  pub is_word : TakesToken (is_keyword (word_of kind)) s word m
  pub refers : Refers depth kind m found r
  pub is : x ≡ element_of kind word found

-- ---- what stands in braces, of things in their order

abbrev pub path_of : RawPath → List PathItem → RawPath
path_of path [] = path
path_of path (x ∷ xs) = path_of (with_piece path x) xs

-- the semicolon behind a thing, which may miss before the closing brace
abbrev pub Terminated : List Spot → List Spot → Type 0
Terminated s r = ((sees 125 s ≡ true) × (s ≡ r)) ⊎ Symbol 59 s r

module _ (BracedPath : Stage → Stands RawPath) where
  -- the word and "{" path "}"
  pub record Worded (word : List ℕ) (s : List Spot) (x : RawLog) (r : List Spot) : Type 0 where
    pub spot : Spot
    pub m : List Spot
    pub path : RawPath
    pub is_word : TakesToken (is_keyword word) s spot m
    pub is_path : BracedPath stage.All m path r
    pub is : x ≡ log_of spot path

  -- [ "else" "{" { element ";" } "}" ]
  pub data Other : List Spot → Option (List RawElement) → List Spot → Type 0 where
    none : (s : List Spot) → sees_word (codes "else") s ≡ false → Other s None s
    some : (s m r : List Spot) (path : RawPath) (x : Option (List RawElement))
        → Keyword (codes "else") s m → BracedPath stage.Branch m path r → x ≡ Some path.elements
        → Other s x r

module _ (depth : ℕ) (BracedPath : Stage → Stands RawPath) where
  -- the word, "(" expr ")" and "{" { element ";" } "}"
  pub record Arm (word : List ℕ) (s : List Spot) (x : RawBranch) (r : List Spot) : Type 0 where
    pub m : List Spot
    pub inner : List Spot
    pub after : List Spot
    pub next : List Spot
    pub test : RawExpr
    pub path : RawPath
    pub is_word : Keyword word s m
    pub opens : Symbol 40 m inner
    pub is_test : Expression depth inner test after
    pub closes : Symbol 41 after next
    pub is_path : BracedPath stage.Branch next path r
    pub is : x ≡ branch_of test path

  -- { "elif" "(" expr ")" "{" { element ";" } "}" }
  pub data Arms : List Spot → List RawBranch → List Spot → Type 0 where
    done : (s : List Spot) → sees_word (codes "elif") s ≡ false → Arms s [] s
    more : (s m r : List Spot) (x : RawBranch) (xs : List RawBranch) → Arm (codes "elif") s x m
        → Arms m xs r → Arms s (x ∷ xs) r

  pub data IsPathElement : List Spot → RawElement → List Spot → Type 0 where
    -- "source" ref | "destination" ref | "filter" ref | "rewrite" ref | "parser" ref
    refers : (s r : List Spot) (x : RawElement) (kind : ReferenceKind) → Referring depth kind s x r
        → IsPathElement s x r
    -- "junction" "{" { "channel" "{" path "}" ";" } "}"
    junction : (s m r : List Spot) (xs : List RawLog) (x : RawElement)
        → Keyword (codes "junction") s m → Braced (Worded BracedPath (codes "channel")) m xs r
        → x ≡ Junction xs → IsPathElement s x r
    -- "if" "(" expr ")" "{" .. "}" { "elif" .. } [ "else" .. ]
    conditional : (s m n r : List Spot) (first : RawBranch) (more : List RawBranch)
        (other : Option (List RawElement)) (x : RawElement) → Arm (codes "if") s first m
        → Arms m more n → Other BracedPath n other r → x ≡ If (first ∷ more) other
        → IsPathElement s x r

  -- one thing, where it may stand
  pub data IsPathItem (at : Stage) : List Spot → PathItem → List Spot → Type 0 where
    element : (s r : List Spot) (x : RawElement) (y : PathItem) → takes_elements at ≡ true
        → IsPathElement s x r → y ≡ piece.Element x → IsPathItem at s y r
    -- "log" "{" path "}"
    embedded : (s r : List Spot) (x : RawLog) (y : PathItem) → takes_ends at ≡ true
        → Worded BracedPath (codes "log") s x r → y ≡ piece.Embedded x → IsPathItem at s y r
    -- "flags" "(" { NAME } ")"
    flags : (s m r : List Spot) (xs : List Spot) (y : PathItem) → takes_ends at ≡ true
        → Keyword (codes "flags") s m → Many (TakesToken names_flag) m xs r → y ≡ piece.Flags xs
        → IsPathItem at s y r

  -- path "}", where path = { element ";" } { "log" "{" path "}" ";" } [ "flags" "(" { NAME } ")" ";" ]: what may stand at a place is its stage
  pub data ArePathItems : Stage → List Spot → List PathItem → List Spot → Type 0 where
    closed : (at : Stage) (s r : List Spot) → Symbol 125 s r → ArePathItems at s [] r
    extra : (at : Stage) (s m r : List Spot) (xs : List PathItem) → Symbol 59 s m
        → ArePathItems at m xs r
        → ArePathItems at s xs r
    more : (at : Stage) (s m n r : List Spot) (x : PathItem) (xs : List PathItem)
        → IsPathItem at s x m
        → Terminated m n → ArePathItems (stage_behind at x) n xs r → ArePathItems at s (x ∷ xs) r

-- "{" path "}", with what stands in it nested less deep
abbrev pub BracedPath : ℕ → Stage → List Spot → RawPath → List Spot → Type 0
BracedPath zero at s x r = ⊥
BracedPath (suc depth) at s x r = (m : List Spot) × (xs : List PathItem) × Symbol 123 s m
    × ArePathItems depth (BracedPath depth) at m xs r × (x ≡ path_of empty_path xs)

-- "log" "{" path "}"
abbrev pub IsLog : ℕ → Stands RawLog
IsLog depth = Worded (BracedPath depth) (codes "log")
