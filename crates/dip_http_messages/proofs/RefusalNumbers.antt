-- The bodies of refusals, whose statuses are printed in digits.
use Rattle.std.proofs.Common.{◌≡◌, codes, refl}
use Rattle.std.specs.Fmt.{decimal, digits}
use Rattle.dip_http_messages.specs.Answers.{refusal_body}

decimal_400 : decimal 400 ≡ codes "400"
unfolding digits
decimal_400 = refl

pub body_400 : codes "400 Bad Request\n" ≡ refusal_body 400
body_400 = rw decimal_400 refl

decimal_404 : decimal 404 ≡ codes "404"
unfolding digits
decimal_404 = refl

pub body_404 : codes "404 Not Found\n" ≡ refusal_body 404
body_404 = rw decimal_404 refl

decimal_405 : decimal 405 ≡ codes "405"
unfolding digits
decimal_405 = refl

pub body_405 : codes "405 Method Not Allowed\n" ≡ refusal_body 405
body_405 = rw decimal_405 refl

decimal_411 : decimal 411 ≡ codes "411"
unfolding digits
decimal_411 = refl

pub body_411 : codes "411 Length Required\n" ≡ refusal_body 411
body_411 = rw decimal_411 refl

decimal_413 : decimal 413 ≡ codes "413"
unfolding digits
decimal_413 = refl

pub body_413 : codes "413 Payload Too Large\n" ≡ refusal_body 413
body_413 = rw decimal_413 refl

decimal_503 : decimal 503 ≡ codes "503"
unfolding digits
decimal_503 = refl

pub body_503 : codes "503 Service Unavailable\n" ≡ refusal_body 503
body_503 = rw decimal_503 refl
