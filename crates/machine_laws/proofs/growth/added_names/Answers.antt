use Rattle.machine_laws.proofs.growth.added_names.Goals as goal

pub returns-clause-constructor : goal.returns-clause-constructor
returns-clause-constructor c = λ p k p' s name l. s.added.constructor name l

pub returns-clause-class : goal.returns-clause-class
returns-clause-class c = λ p k p' s l. s.added.exception l

pub returns-clause-helpers : goal.returns-clause-helpers
returns-clause-helpers c = λ p k p' s l. (s.added.event l).static

pub returns-clause-signatures : goal.returns-clause-signatures
returns-clause-signatures c = λ p k p' s i j l m. s.identities.signatures i j l m
