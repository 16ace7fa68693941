mod Items
mod Parsing
mod RoundTrip
