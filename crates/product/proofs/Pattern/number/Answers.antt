-- `product::Pattern::number` meets its contract. Assumes nothing.
use Rattle.std.proofs.lemmas.Float.{not_nan_f32_bits}
use Rattle.product.proofs.Pattern.number.Goals as goal

pub float_from_bits-result : goal.float_from_bits-result
float_from_bits-result c = not_nan_f32_bits c.args.self.bits c.args.self.is_number
