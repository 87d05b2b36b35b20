use Rattle.job_order.proofs.Publishers.{one_filter, row_below}
use Rattle.job_order.proofs.laws.each_band_has_one_filter.Goals as goal

pub returns : goal.returns
returns c = record {
  once = λ segments f band a b h. one_filter segments h f band a b;
  below = λ segments f columns rows row shown h. row_below segments h f columns rows row shown;
}
