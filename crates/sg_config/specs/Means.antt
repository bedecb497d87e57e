-- What the tokens of a configuration mean, or what is wrong with them.
use Rattle.std.specs.Prelude.{◌≡◌, ◌⊎◌, List, map, Some, None, Result, Ok, Err}
use Rattle.sg_lex.specs.declared.token.Token.{Token}
use Rattle.sg_lex.specs.declared.fault.ConfigFault.{ConfigFault}
use Rattle.sg_parse_obj.specs.Objects.{spots_at}
use Rattle.sg_parse_obj.specs.declared.whole.ParseRefusal.TheVariants.{Bad as Unparsed}
use Rattle.sg_parse_text.specs.declared.statement.Statement.{Statement}
use Rattle.sg_parse_text.specs.Answers.{RefusesParse}
use Rattle.sg_parse_text.specs.Grammar.{IsConfigText}
use Rattle.sg_parse_text.specs.Texts.{text_at}
use Rattle.sg_fault.specs.declared.placed.Placed.{Placed}
use Rattle.sg_fault.specs.Faults.{fault_at}
use Rattle.sg_names.specs.Registers.{names_of}
use Rattle.sg_resolve.specs.First.{IsFirstFault as HasFirstFault}
use Rattle.sg_plan.specs.declared.plan.Plan.{Plan}
use Rattle.sg_plan.specs.Plans.{IsPlan}
use Rattle.sg_tree.specs.declared.forest.InletRule.{InletRule}
use Rattle.sg_tree.specs.Readings.{inlet_of}
use Rattle.sg_forest.specs.Forests.{IsForest}
use Rattle.sg_config.specs.declared.config.Config.{Config}
use Rattle.sg_config.specs.declared.config.LoadRefusal.{LoadRefusal}
use Rattle.sg_config.specs.declared.config.LoadRefusal.TheVariants.{Bad, NoMemory}
use Rattle.sg_config.specs.Readings.{readings_of}

-- what statements come to: their plan, and their log paths over the inlets of that plan, each of which is read as its driver says
pub record IsConfigOf (statements : List Statement) (config : Config) : Type 0 where
  pub plan : Plan
  pub planned : IsPlan statements plan
  pub rules : List InletRule
  pub readings : map inlet_of rules ≡ readings_of plan.sources.items plan.inlets.items
  pub paths : IsForest (names_of statements) plan.ends rules statements config.forest
  pub setup : config.setup ≡ plan.setup
  pub inlets : config.inlets.items ≡ plan.inlets.items
  pub outlets : config.outlets.items ≡ plan.outlets.items
  pub stores : config.stores.items ≡ plan.stores.items

-- the tokens are statements with which nothing is wrong, and these come to the configuration
pub record Means (tokens : List Token) (config : Config) : Type 0 where
  pub statements : List Statement
  pub text : IsConfigText (spots_at tokens 0) statements
  pub faultless : HasFirstFault statements None
  pub made : IsConfigOf statements config

-- the tokens are no statements, and this is the first token at which that shows
abbrev pub IsUnparsed : List Token → ConfigFault → Type 0
IsUnparsed tokens fault = RefusesParse tokens (text_at (spots_at tokens 0)) (Unparsed fault)

-- the first thing that is wrong with statements
abbrev pub IsUnresolved : List Statement → ConfigFault → Type 0
IsUnresolved statements fault = (placed : Placed) × HasFirstFault statements (Some placed)
    × (fault ≡ fault_at placed)

-- what is wrong with tokens
abbrev pub IsFaultOfTokens : List Token → ConfigFault → Type 0
IsFaultOfTokens tokens fault = IsUnparsed tokens fault ⊎ ((statements : List Statement)
    × IsConfigText (spots_at tokens 0) statements × IsUnresolved statements fault)

-- what statements come to, or what is wrong with them, unless memory runs out
abbrev pub Resolves : List Statement → Result Config LoadRefusal → Type 0
Resolves statements (Ok config) = HasFirstFault statements None × IsConfigOf statements config
Resolves statements (Err (Bad fault)) = IsUnresolved statements fault
Resolves statements (Err NoMemory) = Unit {0}

-- what tokens mean, or what is wrong with them, unless memory runs out
abbrev pub Loads : List Token → Result Config LoadRefusal → Type 0
Loads tokens (Ok config) = Means tokens config
Loads tokens (Err (Bad fault)) = IsFaultOfTokens tokens fault
Loads tokens (Err NoMemory) = Unit {0}
