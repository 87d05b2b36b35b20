use Rattle.inverse_transforms.proofs.Narrows.{product_value, product_sized}
use Rattle.inverse_transforms.proofs.numbers.narrow_product.Goals as goal

pub returns-clause-value : goal.returns-clause-value
returns-clause-value c = product_value c.args.x c.args.c c.requires.narrow c.requires.constant

pub returns-clause-size : goal.returns-clause-size
returns-clause-size c = product_sized c.args.x c.args.c c.requires.narrow c.requires.constant
