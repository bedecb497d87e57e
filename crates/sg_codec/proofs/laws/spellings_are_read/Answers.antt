use Rattle.std.proofs.Common.{refl, sym, ◌∙◌, inl}
use Rattle.sg_codec.specs.Spelling.{spelling2}
use Rattle.sg_codec.proofs.FieldLaws.{ok_is}
use Rattle.sg_codec.proofs.EntryLaws.{reading_again}
use Rattle.sg_codec.proofs.laws.spellings_are_read.Goals as goal

pub returns-clause-read : goal.returns-clause-read
returns-clause-read c = λ kept bytes spells. reading_again bytes kept spells

pub returns-clause-again : goal.returns-clause-again
returns-clause-again c = λ kept fits. reading_again (spelling2 kept) kept (inl (record { fits = fits; spelled = refl }))

pub returns-clause-one : goal.returns-clause-one
returns-clause-one c = λ a b bytes x y. ok_is a b (sym (reading_again bytes a x) ∙ reading_again bytes b y)
