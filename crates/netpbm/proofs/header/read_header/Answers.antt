use Rattle.std.proofs.Common.{sym, ap, ◌∙◌}
use Rattle.std.specs.Option.{option_map, option_copied}
use Rattle.netpbm.specs.Passes.{numeral_of}
use Rattle.netpbm.proofs.Heads.{parts_read, slice_from}
use Rattle.netpbm.proofs.header.read_header.Goals as goal
use Rattle.netpbm.specs.Numerals.{number_to}

pub returns : goal.returns
returns c = sym (parts_read c.args.input.now (record { form = c.in_ok-form.form; width = c.in_ok-width.width.value; height = c.in_ok-height.height.value; largest = c.in_ok-largest.largest.value; raster = c.in_ok-raster.raster.now }) (record {
  width_rest = c.in_ok-width.width.rest.now;
  height_rest = c.in_ok-height.height.rest.now;
  largest_rest = c.in_ok-largest.largest.rest.now;
  form = sym c.form_of.ensures ∙ c.in_ok-form.ensures.ok_part;
  width = ap (number_to 16384) (sym (slice_from 2 c.args.input.now)) ∙ (sym c.number_to.ensures ∙ ap (option_map numeral_of) c.in_ok-width.ensures.ok_part);
  height = sym c.number_to-2.ensures ∙ ap (option_map numeral_of) c.in_ok-height.ensures.ok_part;
  largest = sym c.number_to-3.ensures ∙ ap (option_map numeral_of) c.in_ok-largest.ensures.ok_part;
  raster = sym c.raster_behind.ensures ∙ ap option_copied c.in_ok-raster.ensures.ok_part;
}))
