use Rattle.std.proofs.Common.{◌-◌, ◌∙◌, ap}
use Rattle.il_opcodes.specs.declared.class.Storage.{Storage}
use Rattle.cil_semantics.specs.Outside.{fits_storage, fits_within}
use Rattle.run_values.proofs.DefaultLaws.{if_ok_is}
use Rattle.run_outside.proofs.FitLaws.{fit_step, no_fit, other_lengths}
use Rattle.run_outside.proofs.fitting.+fits.Goals as goal

pub fits_within-returns : goal.fits_within-returns
fits_within-returns t c =
    if_ok_is c.fits_kind.result (fits_storage c.args.program.now c.args.world.now (fits_within (c.args.depth - 1) c.args.program.now c.args.world.now) c.args.ty.now c.args.v.now c.storage_of.result) (fits_within c.args.depth c.args.program.now c.args.world.now c.args.ty.now c.args.v.now)
    (ap (λ (s : Storage). fits_storage c.args.program.now c.args.world.now (fits_within (c.args.depth - 1) c.args.program.now c.args.world.now) c.args.ty.now c.args.v.now s) c.storage_of.ensures ∙ fit_step c.args.program.now c.args.world.now c.args.depth c.args.ty.now c.args.v.now c.if-depth-eq0.false)
    c.fits_kind.ensures

pub fits_within-returns-then-depth-eq0 : goal.fits_within-returns-then-depth-eq0
fits_within-returns-then-depth-eq0 t c = no_fit c.args.program.now c.args.world.now c.args.depth c.args.ty.now c.args.v.now c.if-depth-eq0.true

pub all_fit-returns-then-tys-values : goal.all_fit-returns-then-tys-values
all_fit-returns-then-tys-values t c = other_lengths (fits_within c.args.depth c.args.program.now c.args.world.now) c.args.tys.now c.args.values.now c.if-tys-values.true
