pub mod MetricsTexts
