-- What the code's values say.
use Rattle.dip_http_messages.specs.declared.fields.Found.{Found}
use Rattle.dip_http_messages.specs.declared.fields.Found.TheVariants.{Never, Once, Often}
use Rattle.dip_http_messages.specs.Fields as fields

abbrev pub found_view : Found → fields.Found
found_view Never = fields.never
found_view (Once v) = fields.once v.now
found_view Often = fields.often
